-- The loop that numbers the right variables that are not linked: those up to i have their numbers, the others what the links gave them. Assumes nothing.
use Prim.Native.Nat.{ℕ, zero, suc, ◌+◌, ◌≤◌, ◌<◌}
use native.Mathlib.Omega.{arith}
use native.Mathlib.Numerals.{add-one}
use mathlib.Core.Path.{◌≡◌, refl, sym, ap, ◌∙◌}
use mathlib.Core.Logic.{⊎_elim}
use mathlib.Core.List.{List}
use lib.ListN.{length, get_or, set, replicate, length-set, length-replicate}
use Rattle.base.proofs.Lists.{get_d_zeros}
use lib.Seq.{get_or-set_same, get_or-set_other}
use Rattle.base.specs.Decide.{le_or}
use Rattle.join.specs.Links.{link_of, unlinked, right_number}
use Rattle.join.specs.FunctionContracts.{Unnumbered, LinksPut}
use Rattle.join.proofs.RightNumbers.{unlinked_more, unlinked_same, number_linked, number_unlinked}

-- a table of zeros
pub unnumbered : Unnumbered (replicate 1025 0)
unnumbered = record { room = length-replicate {A = ℕ} 1025 0; none = λ x h. get_d_zeros 1025 x }

pub record Numbering (v w : ℕ) (links numbering : List ℕ) (last i : ℕ) : Type 0 where
  pub counts : last ≡ v + unlinked links i
  pub numbered : (x : ℕ) → 0 < x → x ≤ i → get_or numbering x 0 ≡ right_number v links x
  pub rest : (x : ℕ) → i < x → x < 1025 → get_or numbering x 0 ≡ link_of links x
  pub nought : get_or numbering 0 0 ≡ link_of links 0

-- whatever the links are that the table holds
pub record Loop (v w : ℕ) (numbering₀ numbering : List ℕ) (last i : ℕ) : Type 0 where
  pub few : v ≤ 1024
  pub some : w ≤ 1024
  pub room : length numbering ≡ 1025
  pub within : i ≤ w
  pub low : last ≤ v + i
  pub each : (links : List ℕ) → LinksPut links numbering₀ → Numbering v w links numbering last i

pub loop_none : {v w : ℕ} {numbering : List ℕ} → v ≤ 1024 → w ≤ 1024 → length numbering ≡ 1025 → Loop v w numbering numbering v 0
unfolding unlinked
loop_none a b r = record {
  few = a;
  some = b;
  room = r;
  within = omega arith;
  low = omega arith;
  each = λ links P. record { counts = omega arith; numbered = λ x p q. absurd (omega (arith, p, q)); rest = λ x p q. P.is x q; nought = P.is 0 (omega arith) };
}

module _ {v w : ℕ} {numbering₀ numbering : List ℕ} {last i : ℕ} (L : Loop v w numbering₀ numbering last i) (lt : i < w) where
  -- the next one is linked
  pub loop_linked : (get_or numbering (i + 1) 0 ≡ 0 → ⊥) → Loop v w numbering₀ numbering last (i + 1)
  loop_linked d = record { few = L.few; some = L.some; room = L.room; within = omega arith; low = omega (arith, L.low); each = λ links P. go links (L.each links P) }
    where
      go : (links : List ℕ) → Numbering v w links numbering last i → Numbering v w links numbering last (i + 1)
      go links N = by (link_of links (suc i)) refl
        where
          put : get_or numbering (i + 1) 0 ≡ link_of links (suc i)
          put = N.rest (i + 1) (omega arith) (omega (arith, lt, L.some)) ∙ ap (link_of links) (add-one i)

          by : (k : ℕ) → link_of links (suc i) ≡ k → Numbering v w links numbering last (i + 1)
          by zero e = absurd (d (put ∙ e))
          by (suc l) e = record {
            counts = N.counts ∙ ap (λ (k : ℕ). v + k) (sym (unlinked_same links i l e)) ∙ ap (λ (k : ℕ). v + unlinked links k) (sym (add-one i));
            numbered = λ x p q. ⊎_elim (λ (h : x ≤ i). N.numbered x p h)
                (λ (h : i < x). let s : x ≡ suc i = omega (arith, q, h) in ap (λ (k : ℕ). get_or numbering k 0) (s ∙ sym (add-one i)) ∙ put ∙ e ∙ sym (ap (right_number v links) s ∙ number_linked links v (suc i) l e))
                (le_or x i);
            rest = λ x p q. N.rest x (omega (arith, p)) q;
            nought = N.nought;
          }

  -- it is not, and gets the next number
  pub loop_numbered : get_or numbering (i + 1) 0 ≡ 0 → Loop v w numbering₀ (set numbering (i + 1) (last + 1)) (last + 1) (i + 1)
  loop_numbered z = record {
    few = L.few;
    some = L.some;
    room = length-set numbering (i + 1) (last + 1) ∙ L.room;
    within = omega arith;
    low = omega (arith, L.low);
    each = λ links P. go links (L.each links P);
  }
    where
      go : (links : List ℕ) → Numbering v w links numbering last i → Numbering v w links (set numbering (i + 1) (last + 1)) (last + 1) (i + 1)
      go links N = record {
        counts = count;
        numbered = λ x p q. ⊎_elim
            (λ (h : x ≤ i). get_or-set_other numbering (i + 1) x (last + 1) 0 (λ s. omega (arith, s, h)) ∙ N.numbered x p h)
            (λ (h : i < x).
            let s : x ≡ i + 1 = omega (arith, q, h) in
            ap (λ (k : ℕ). get_or (set numbering (i + 1) (last + 1)) k 0) s ∙ get_or-set_same numbering (i + 1) (last + 1) 0 (omega (arith, lt, L.some, L.room)) ∙ count ∙ sym (ap (right_number v links) s ∙ number_unlinked links v (i + 1) free))
            (le_or x i);
        rest = λ x p q. get_or-set_other numbering (i + 1) x (last + 1) 0 (λ s. omega (arith, s, p)) ∙ N.rest x (omega (arith, p)) q;
        nought = get_or-set_other numbering (i + 1) 0 (last + 1) 0 (λ s. omega (arith, s)) ∙ N.nought;
      }
        where
          free : link_of links (i + 1) ≡ 0
          free = sym (N.rest (i + 1) (omega arith) (omega (arith, lt, L.some))) ∙ z

          count : last + 1 ≡ v + unlinked links (i + 1)
          count = omega (arith, N.counts, ap (unlinked links) (add-one i), unlinked_more links i (ap (link_of links) (sym (add-one i)) ∙ free))
