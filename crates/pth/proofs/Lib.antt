mod NoText
