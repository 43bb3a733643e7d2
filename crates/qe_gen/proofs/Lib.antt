mod Polynomials
mod Forms
mod Numbering
