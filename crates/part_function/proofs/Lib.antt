mod FreeWalk
mod FreeEntries
mod Rising
mod Numbered
mod PlacedParts
