pub mod Values
pub mod OnLine
pub mod RootValue
pub mod Shapes
pub mod TestFormulas
mod SignTable
pub mod SignTruth
pub mod RootLaws
