pub mod ExchangeLemmas
pub mod ReadLemmas
