-- Demand 3: the few words in it that `run` does not have, and what is promised. The argument stands in proofs/.
pub mod Words
pub mod Promise
