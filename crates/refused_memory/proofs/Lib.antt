-- The lemmas of this crate.
mod Replicas
