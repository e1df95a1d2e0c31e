mod Catalogue
mod Floats
mod Moments
mod PlainErrors
