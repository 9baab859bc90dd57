-- What `least_mutual` means: the least slot of a group.
-- Assumes nothing.
use Prim.Native.Nat.{ℕ, ◌<◌}
use native.Mathlib.Nat.{le_refl}
use native.Mathlib.Omega.{arith}
use mathlib.Core.Path.{◌≡◌}
use mathlib.Core.Bool.{Bool, true}
use mathlib.Core.List.{List, Memᴰ}
use lib.ListN.{length, replicate, length-replicate}
use borrow.Author.Tests.{ltb-true, lt-ltb}
use Rattle.base.specs.Lists.{first}
use Rattle.base.proofs.Booleans.{and_left, and_right, and_both}
use Rattle.base.proofs.Searches.{first_found}
use Rattle.walk.specs.Forest.{Reach, here}
use Rattle.walk.proofs.Theorems.{reach_exact, reach_below}
use Rattle.scc.specs.Groups.{reaches, connected, least_mutual, Representative}

-- ---- paths, decided

module _ (adj : ℕ → List ℕ) (size : ℕ) (inside : (s q : ℕ) → s < size → Memᴰ q (adj s) → q < size) where
  pub reaches_means : (a b : ℕ) → a < size → (reaches adj size a b ≡ true → Reach adj a b) × (Reach adj a b → reaches adj size a b ≡ true)
  unfolding reaches
  reaches_means a b lt =
      let zeros : List ℕ = replicate size 0 in
      let len : length zeros ≡ size = length-replicate {A = ℕ} size 0 in
      let x = reach_exact adj size inside size a zeros zeros zeros len len len lt (le_refl _) b in
      (λ e. x.0 (ltb-true 0 _ e), λ r. lt-ltb 0 _ (x.1 r))

  connected_means : (a b : ℕ) → a < size → b < size → (connected adj size a b ≡ true → (Reach adj a b) × (Reach adj b a)) × (Reach adj a b → Reach adj b a → connected adj size a b ≡ true)
  unfolding connected
  connected_means a b la lb = (
    λ e. ((reaches_means a b la).0 (and_left (reaches adj size a b) (reaches adj size b a) e), (reaches_means b a lb).0 (and_right (reaches adj size a b) (reaches adj size b a) e)),
    λ there back. and_both (reaches adj size a b) (reaches adj size b a) ((reaches_means a b la).1 there) ((reaches_means b a lb).1 back),
  )

  -- THE THEOREM: least_mutual is the least slot of the group
  pub least_mutual_lem : (s : ℕ) → s < size → Representative adj size s (least_mutual adj size s)
  unfolding least_mutual
  least_mutual_lem s lt =
      let test : ℕ → Bool = connected adj size s in
      let r : ℕ = first test size 0 in
      let own : test s ≡ true = (connected_means s s lt lt).1 here here in
      let f = first_found test size 0 s (omega arith) (omega arith) own in
      let below : r < size = omega (arith, f.1) in
      let means = (connected_means s r lt below).0 f.0 in
      record {
        below = below;
        there = means.0;
        back = means.1;
        least = λ b there back. let bl = reach_below adj size inside lt there in (first_found test size 0 b (omega arith) (omega arith) ((connected_means s b lt bl).1 there back)).1;
      }

  -- and there is only one
  pub representative_is : (s r : ℕ) → s < size → Representative adj size s r → r ≡ least_mutual adj size s
  representative_is s r lt R =
      let L = least_mutual_lem s lt in
      let a = R.least (least_mutual adj size s) L.there L.back in
      let b = L.least r R.there R.back in
      omega arith
