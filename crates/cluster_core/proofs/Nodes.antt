-- What comes to a node is one step of it, and the nodes stay what they are.
pub mod AllCome
pub mod Carried
pub mod Comes
pub mod Known
pub mod LinksUp
pub mod Relinks
pub mod Stay
pub mod Then
pub mod Thins
