-- `euclid::euclid` meets its contract: modulo a prime there is no divisor to be found. Assumes nothing.
use Rattle.modular.proofs.PrimeTest.{prime_exactly}
use Rattle.euclid.proofs.euclid.Goals as goal

pub invariant_of-m : goal.invariant_of-m
invariant_of-m c =
    let p = c.requires.sizes in
    record { two = p.prime.two; word = p.word; known = λ _. (prime_exactly c.args.p).1 p.prime }
