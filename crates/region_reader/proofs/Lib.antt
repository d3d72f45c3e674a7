pub mod SteadyLemmas
