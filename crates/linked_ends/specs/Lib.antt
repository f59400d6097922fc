pub mod UsesLinks
