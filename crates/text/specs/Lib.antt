-- What the program's inner functions ask of the line that they are handed, and what they do with it. Nothing here says what is right: the libraries' contracts do.
pub mod Lending
pub mod Lines
pub mod Numbers
pub mod Pattern
