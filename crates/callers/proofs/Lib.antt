mod Among
mod OwnNumbers
mod Pushed
