-- What crates above use of the keys of a demonstration.
pub use Rattle.demo_index.proofs.DistinctKeys.{demo_keys-distinct}
