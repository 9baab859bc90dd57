-- The loop over the links: the pairs so far are good, their variables are marked, and each right one has its left one in the table of numbers. Assumes nothing.
use Prim.Native.Nat.{ℕ, zero, suc, ◌+◌, ◌*◌, ◌-◌, ◌≤◌, ◌<◌, min}
use native.Mathlib.Omega.{arith}
use native.Mathlib.Numerals.{add-one}
use mathlib.Core.Path.{◌≡◌, refl, sym, ap, ◌∙◌}
use mathlib.Core.Bool.{Bool, true, false, ◌||◌}
use mathlib.Core.Logic.{◌⊎◌, inl, inr}
use mathlib.Core.List.{List, [], ◌∷◌, ◌++◌}
use lib.ListN.{length, get_or, set, drop, replicate, length-replicate, length-set, length-drop, length-append}
use lib.Seq.{get_or-set_same, get_or-set_other, drop_at, drop-drop}
use Rattle.std.proofs.lemmas.List.{get_or-drop, get_or_past}
use lib.Dec.{eqb}
use borrow.Author.Tests.{eq-eqb, ne_eqb}
use Rattle.base.specs.Decide.{same_or}
use Rattle.base.specs.Lists.{first, any_below}
use Rattle.base.proofs.Booleans.{or_left}
use Rattle.base.proofs.Lists.{get_d_filled, get_d_inside}
use Rattle.base.proofs.Searches.{first_hit, first_next}
use Rattle.join.specs.Links.{pair_count, left_of, right_of, outside, bad_side, bad_link, first_bad, link_in}
use Rattle.join.specs.FunctionContracts.{Unnumbered, LinksPut}
use Rattle.join.proofs.RightNumbers.{inside}

-- the variables that i pairs use on one side are marked
pub record Used (side : ℕ → ℕ) (marks : List Bool) (i : ℕ) : Type 0 where
  pub size : length marks ≡ 1025
  pub is : (x : ℕ) → x < 1025 → get_or marks x false ≡ any_below i (λ j. eqb (side j) x)

used_none : (side : ℕ → ℕ) → Used side (replicate 1025 false) 0
unfolding any_below
used_none side = record { size = length-replicate 1025 false; is = λ x h. get_d_filled 1025 x false }

used_more : {side : ℕ → ℕ} {marks : List Bool} {i : ℕ} → Used side marks i → side i < 1025 → Used side (set marks (side i) true) (suc i)
unfolding any_below
used_more {side} {marks} {i} U low = record { size = length-set marks (side i) true ∙ U.size; is = λ x h. by x h (same_or (side i) x) }
  where
    by : (x : ℕ) → x < 1025 → (side i ≡ x) ⊎ (side i ≡ x → ⊥) → get_or (set marks (side i) true) x false ≡ elim (eqb (side i) x) [ true ↦ true | false ↦ any_below i (λ j. eqb (side j) x) ]
    by x h (inl e) = ap (λ (k : ℕ). get_or (set marks (side i) true) k false) (sym e) ∙ get_or-set_same marks (side i) true false (omega (arith, low, U.size)) ∙ sym (rw (eq-eqb (side i) x e))
    by x h (inr n) = get_or-set_other marks (side i) x true false (λ e. n (sym e)) ∙ U.is x h ∙ sym (rw (ne_eqb (side i) x n))

-- ---- the pieces of two numbers, the last of which may be shorter

get_or_front : (p r : List ℕ) (k : ℕ) → (length p ≤ k → length r ≡ 0) → get_or (p ++ r) k 0 ≡ get_or p k 0
get_or_front [] r k h = get_or_past r k 0 (omega (arith, h (omega arith)))
get_or_front (x ∷ p) r zero h = refl
get_or_front (x ∷ p) r (suc k) h = get_or_front p r k (λ q. h (omega arith))

pub record Piece (links : List ℕ) (i : ℕ) (pair rest : List ℕ) : Type 0 where
  pub is : drop (2 * i) links ≡ pair ++ rest
  pub size : length pair ≡ min 2 (length (drop (2 * i) links))
  pub some : 0 < length (drop (2 * i) links)

-- what is left of the pieces, as the loop goes on
pub piece_is : {links pair rest left : List ℕ} {i size : ℕ} → left ≡ drop (2 * i) links → size ≡ 2 → left ≡ pair ++ rest → length pair ≡ min size (length left) → 0 < length left → Piece links i pair rest
piece_is is two cut many some = record { is = sym is ∙ cut; size = omega (arith, many, two, ap length is); some = omega (arith, some, ap length is) }

module _ {links : List ℕ} {i : ℕ} {pair rest : List ℕ} (P : Piece links i pair rest) where
  pub more_pairs : 2 * i < length links
  more_pairs = omega (arith, P.some, length-drop (2 * i) links)

  place_is : (k : ℕ) → k < 2 → get_or pair k 0 ≡ get_or links (2 * i + k) 0
  place_is k h =
      sym (get_or_front pair rest k (λ q. omega (arith, q, h, P.size, ap length P.is, length-append pair rest))) ∙ ap (λ (l : List ℕ). get_or l k 0) (sym P.is) ∙ get_or-drop (2 * i) links k 0

  pub left_is : get_or pair 0 0 ≡ left_of links i
  left_is = place_is 0 (omega arith) ∙ ap (λ (k : ℕ). get_or links k 0) (let e : 2 * i + 0 ≡ 2 * i = omega arith in e)

  pub right_is : get_or pair 1 0 ≡ right_of links i
  right_is = place_is 1 (omega arith)

  pub next_piece : 2 * (i + 1) ≤ length links → rest ≡ drop (2 * (i + 1)) links
  next_piece h =
      let two : length pair ≡ 2 = omega (arith, P.size, length-drop (2 * i) links, h) in
      let q : 2 * i + 2 ≡ 2 * (i + 1) = omega arith in
      sym (drop_at pair rest 2 two) ∙ ap (drop 2) (sym P.is) ∙ drop-drop 2 (2 * i) links ∙ ap (λ (k : ℕ). drop k links) q

-- ---- the loop

pub record Linking (v w : ℕ) (links numbering : List ℕ) (lefts rights : List Bool) (i : ℕ) : Type 0 where
  pub within : 2 * i ≤ length links
  pub left : first (bad_link v w links) (pair_count links - i) i ≡ first_bad v w links
  pub lefts_are : Used (left_of links) lefts i
  pub rights_are : Used (right_of links) rights i
  pub room : length numbering ≡ 1025
  pub numbering_is : (x : ℕ) → x < 1025 → get_or numbering x 0 ≡ link_in links i x

pub linking_none : (v w : ℕ) (links numbering : List ℕ) → Unnumbered numbering → Linking v w links numbering (replicate 1025 false) (replicate 1025 false) 0
unfolding first_bad link_in
linking_none v w links numbering N = record {
  within = omega arith;
  left = ap (λ (n : ℕ). first (bad_link v w links) n 0) (let e : pair_count links - 0 ≡ pair_count links = omega arith in e);
  lefts_are = used_none (left_of links);
  rights_are = used_none (right_of links);
  room = N.room;
  numbering_is = λ x h. N.none x h;
}

-- what the code asks of a side
pub asked : {v : ℕ} {side : ℕ → ℕ} {marks : List Bool} {i : ℕ} → v ≤ 1024 → Used side marks i → (outside v (side i) || get_or marks (side i) false) ≡ bad_side v side i
asked {v} {side} {marks} {i} few U = by (outside v (side i)) refl
  where
    by : (b : Bool) → outside v (side i) ≡ b → (b || get_or marks (side i) false) ≡ (b || any_below i (λ j. eqb (side j) (side i)))
    by true e = refl
    by false e = U.is (side i) (omega (arith, few, inside v (side i) e))

pub told : {v : ℕ} {side : ℕ → ℕ} {marks : List Bool} {i x : ℕ} {r : Bool} → v ≤ 1024 → Used side marks i → x ≡ side i → r ≡ (outside v x || get_or marks x false) → r ≡ bad_side v side i
told {v} {side} {marks} few U e q = q ∙ ap (λ (y : ℕ). outside v y || get_or marks y false) e ∙ asked few U

module _ {v w : ℕ} {links numbering : List ℕ} {lefts rights : List Bool} {i : ℕ} (L : Linking v w links numbering lefts rights i) (lt : 2 * i < length links) where
  stops : bad_link v w links i ≡ true → i ≡ first_bad v w links
  stops e = sym (first_hit (bad_link v w links) (pair_count links - i) i (omega arith) e) ∙ L.left

  pub stops_left : bad_side v (left_of links) i ≡ true → i ≡ first_bad v w links
  stops_left e = stops (ap (λ (b : Bool). b || bad_side w (right_of links) i) e)

  pub stops_right : bad_side v (left_of links) i ≡ false → bad_side w (right_of links) i ≡ true → i ≡ first_bad v w links
  stops_right p e = stops (ap (λ (b : Bool). b || bad_side w (right_of links) i) p ∙ e)

  module _ (few : v ≤ 1024) (some : w ≤ 1024) (p : bad_side v (left_of links) i ≡ false) (q : bad_side w (right_of links) i ≡ false) where
    left_in : (0 < left_of links i) × (left_of links i ≤ v)
    left_in = inside v (left_of links i) (or_left (outside v (left_of links i)) (any_below i (λ j. eqb (left_of links j) (left_of links i))) p)

    right_in : (0 < right_of links i) × (right_of links i ≤ w)
    right_in = inside w (right_of links i) (or_left (outside w (right_of links i)) (any_below i (λ j. eqb (right_of links j) (right_of links i))) q)

    pub left_low : left_of links i < 1025
    left_low = omega (arith, few, left_in)

    pub right_low : right_of links i < 1025
    right_low = omega (arith, some, right_in)

    -- the pair is whole
    pub two : 2 * (i + 1) ≤ length links
    two = omega (arith, get_d_inside links (2 * i + 1) right_in.0)

    numbered_more : (x : ℕ) → x < 1025 → (right_of links i ≡ x) ⊎ (right_of links i ≡ x → ⊥) → get_or (set numbering (right_of links i) (left_of links i)) x 0 ≡ link_in links (suc i) x
    unfolding link_in
    numbered_more x h (inl e) = ap (λ (k : ℕ). get_or (set numbering (right_of links i) (left_of links i)) k 0) (sym e) ∙ get_or-set_same numbering (right_of links i) (left_of links i) 0 (omega (arith, right_low, L.room)) ∙ sym (rw (eq-eqb (right_of links i) x e, link_in))
    numbered_more x h (inr n) = get_or-set_other numbering (right_of links i) x (left_of links i) 0 (λ e. n (sym e)) ∙ L.numbering_is x h ∙ sym (rw (ne_eqb (right_of links i) x n, link_in))

    more : Linking v w links (set numbering (right_of links i) (left_of links i)) (set lefts (left_of links i) true) (set rights (right_of links i) true) (suc i)
    more = record {
      within = omega (arith, two);
      left =
          let fine : bad_link v w links i ≡ false = ap (λ (b : Bool). b || bad_side w (right_of links) i) p ∙ q in
          let many : pair_count links - i ≡ suc (pair_count links - suc i) = omega (arith, lt) in
          sym (first_next (bad_link v w links) (pair_count links - suc i) i fine) ∙ ap (λ (n : ℕ). first (bad_link v w links) n i) (sym many) ∙ L.left;
      lefts_are = used_more L.lefts_are left_low;
      rights_are = used_more L.rights_are right_low;
      room = length-set numbering (right_of links i) (left_of links i) ∙ L.room;
      numbering_is = λ x h. numbered_more x h (same_or (right_of links i) x);
    }

    pub linking_more : {l r : ℕ} → l ≡ left_of links i → r ≡ right_of links i → Linking v w links (set numbering r l) (set lefts l true) (set rights r true) (i + 1)
    linking_more el er = rw (el, er, add-one i) more

pub linked_all : {v w : ℕ} {links numbering : List ℕ} {lefts rights : List Bool} {i : ℕ} → Linking v w links numbering lefts rights i → length links ≤ 2 * i → (first_bad v w links ≡ pair_count links) × LinksPut links numbering
unfolding first
linked_all {v} {w} {links} {numbering} {lefts} {rights} {i} L over =
    let e : i ≡ pair_count links = omega (arith, L.within, over) in
    (sym L.left ∙ ap (λ (n : ℕ). first (bad_link v w links) n i) (let z : pair_count links - i ≡ 0 = omega arith in z) ∙ e, record { room = L.room; is = λ x h. L.numbering_is x h ∙ ap (λ (k : ℕ). link_in links k x) e })
