pub use Rattle.pthash.specs.Hash
