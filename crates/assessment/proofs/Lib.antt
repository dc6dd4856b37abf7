mod Declaring
mod Listing
mod Asking
mod Words
mod Declarations
mod Rendering
mod Assessing
