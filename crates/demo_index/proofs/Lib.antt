pub mod DistinctKeys
pub mod Lists
pub mod CallerLemmas
