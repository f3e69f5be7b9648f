mod Crossed
mod Held
mod LayerSizes
pub mod AddedWhere
pub mod Chosen
pub mod FewVariables
pub mod FlipChains
pub mod GroupsInTurn
pub mod Numbers
pub mod ReadNumbers
pub mod ToldRounds
