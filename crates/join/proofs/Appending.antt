-- The loop that puts the renumbered literals behind the others: what is still to be put, from here on, gives the whole. Assumes nothing.
use Prim.Native.Nat.{ℕ, suc, ◌+◌, ◌-◌, ◌≤◌, ◌<◌}
use native.Mathlib.Omega.{arith}
use native.Mathlib.Numerals.{add-one}
use mathlib.Core.Path.{◌≡◌, sym, ap, ◌∙◌}
use mathlib.Core.List.{List, ◌∷◌, map}
use lib.ListN.{length, get_or, drop, take, set, length-set}
use lib.Seq.{sets, drop-cons}
use lib.IntN.{ℤ, pos, nat_abs}
use lib.Signed.{non_neg}
use mathlib.Core.Bool.{Bool, true, false}
use Rattle.literal.specs.Literals.{Small, sign_by}
use Rattle.literal.proofs.Signed.{small_neg}
use Rattle.join.specs.FunctionContracts.{numbered_by, Renumberable}

-- a renumbered literal has a complement
pub signed_small : (b : Bool) {z : ℤ} → Small z → Small (sign_by b z)
signed_small true h = h
signed_small false h = small_neg h

pub numbered_by_small : (numbering : List ℕ) (x : ℤ) → get_or numbering (nat_abs x) 0 < 65536 → Small (numbered_by numbering x)
numbered_by_small numbering x h = signed_small (non_neg x) (let q : Small (pos (get_or numbering (nat_abs x) 0)) = record { small = omega (arith, h) } in q)

-- the numbers that are still to be put
abbrev rest : List ℕ → List ℤ → ℕ → ℕ → List ℤ
rest numbering others size i = map (numbered_by numbering) (take (size - i) (drop i others))

pub record Appending (numbers₀ : List ℤ) (end : ℕ) (others : List ℤ) (size : ℕ) (numbering : List ℕ) (numbers : List ℤ) (i : ℕ) : Type 0 where
  pub ready : Renumberable numbering others size end (length numbers₀)
  pub within : i ≤ size
  pub long : length numbers ≡ length numbers₀
  pub left : sets numbers (end + i) (rest numbering others size i) ≡ sets numbers₀ end (map (numbered_by numbering) (take size others))

module _ {numbers₀ others numbers : List ℤ} {end size i : ℕ} {numbering : List ℕ} (A : Appending numbers₀ end others size numbering numbers i) (lt : i < size) where
  rest_is : rest numbering others size i ≡ numbered_by numbering (get_or others i (pos 0)) ∷ rest numbering others size (i + 1)
  rest_is =
      let k : size - i ≡ suc (size - (i + 1)) = omega arith in
      ap (λ (n : ℕ). map (numbered_by numbering) (take n (drop i others))) k
      ∙ ap (λ (l : List ℤ). map (numbered_by numbering) (take (suc (size - (i + 1))) l)) (drop-cons others i (pos 0) (omega (arith, lt, A.ready.some)))
      ∙ ap (λ (j : ℕ). numbered_by numbering (get_or others i (pos 0)) ∷ map (numbered_by numbering) (take (size - (i + 1)) (drop j others))) (sym (add-one i))

  pub append_more : {x : ℤ} → x ≡ numbered_by numbering (get_or others i (pos 0)) → Appending numbers₀ end others size numbering (set numbers (end + i) x) (i + 1)
  append_more {x} e = record {
    ready = A.ready;
    within = omega arith;
    long = length-set numbers (end + i) x ∙ A.long;
    left =
        let j : end + (i + 1) ≡ suc (end + i) = omega arith in
        (λ k. sets (set numbers (end + i) (e k)) (j k) (rest numbering others size (i + 1))) ∙ sym (ap (sets numbers (end + i)) rest_is) ∙ A.left;
  }
