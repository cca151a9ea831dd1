-- `modular::inverse::inverse_mod_prime` meets its contract: below a prime nothing but 0 shares a factor with it, so there is an inverse. Assumes nothing.
use Rattle.modular.proofs.Inverses.{inverse_there, prime_found}
use Rattle.modular.proofs.inverse.inverse_mod_prime.Goals as goal

pub returns : goal.returns
returns c = rw c.unwrap_or.ensures (inverse_there _ c.inverse.ensures (prime_found c.requires c.inverse.ensures))
