mod NodesLaw
pub mod LinksLaw
pub mod NodesApart
pub mod OncePairs
mod Texts
mod NamesLaw
mod ValuesLaw
mod EachLaw
mod JsonLaw
pub mod WordsLaw
