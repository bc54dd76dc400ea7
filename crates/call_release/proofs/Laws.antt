-- An accepted release finds its semaphore not full.
use Prim.Native.Nat.{ℕ}
use mathlib.Core.Path.{◌≡◌, refl}
use borrow.Author.Tests.{eqb-false}
use Rattle.kernel.specs.declared.scheduler.Kernel.{Kernel}
use Rattle.kernel.specs.Kernel.{semaphore}
use Rattle.kernel.specs.Calls.{release, number}
use Rattle.kernel.proofs.Accepted.{accepted_at}

pub release_count : (k : Kernel) (s : ℕ) → number k (release s) ≡ 0 → (semaphore k s).count ≡ 4294967295 → ⊥
release_count k s e = eqb-false _ _ (accepted_at k (release s) 1 refl e)
