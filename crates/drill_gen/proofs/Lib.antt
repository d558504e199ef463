pub mod RoomLaw
pub mod KindsLaw
pub mod ValuesLaw
pub mod NamesLaw
pub mod ClusterLaw
pub mod PutLaw
