-- Chains in a list: their ends stand in a slice, their literals are in range, and their text is short. Assumes nothing.
use Prim.Native.Nat.{ℕ, zero, suc, ◌+◌, ◌*◌, ◌-◌, ◌≤◌, ◌<◌}
use native.Mathlib.Omega.{arith}
use native.Mathlib.Nat.{add-zero}
use mathlib.Core.Path.{◌≡◌, refl, sym, ap, subst, ◌∙◌}
use mathlib.Core.Bool.{Bool, true, false}
use mathlib.Core.List.{List, [], ◌∷◌, ◌++◌, Memᴰ, append-nil}
use lib.ListN.{length, get_or, take, drop, length-append, length-drop}
use lib.Seq.{take_all, get_or-take}
use lib.IntN.{ℤ, pos}
use Rattle.base.proofs.Lists.{get_d_mem}
use Rattle.literal.specs.Literals.{Small, EachSmall, Literal, slot_of, eq_z}
use Rattle.literal.specs.Ranged.{InClause, InClauses, total}
use Rattle.stamps.specs.Fresh.{parent_in, FreshStamps}
use Rattle.printing.specs.Printing.{clause_text, clauses_text}
use Rattle.write.specs.Gathered.{gathered}
use Rattle.write.proofs.Gathering.{text_append}
use Rattle.write.proofs.Bounds.{clauses_short}
use Rattle.chains.specs.declared.Ends.{Ends}
use Rattle.chains.specs.Chains.{ends, climb, chain_of, chains_of, flat, ends_at, chain_at}
use Rattle.chains.specs.Climbing.{Climbable, Chained}
use Rattle.chains.proofs.Climbing.{slot_in}

-- ---- the literals of a chain

-- of two lists, whichever a test takes
either : (P : List ℤ → Type 0) (e : Bool) (C D : List ℤ) → P C → P D → P (elim e [ true ↦ C | false ↦ D ])
either P true C D p q = p
either P false C D p q = q

climb_in : {v : ℕ} {times : List ℕ} {links : List ℤ} → FreshStamps v times links → (n : ℕ) (top l : ℤ) (below : List ℤ) → Literal v l → InClause v below → InClause v (climb links n top l below)
unfolding climb InClause
climb_in F zero top l below L b = (L.above, (L.within, b))
climb_in {v} {times} {links} F (suc n) top l below L b =
    either (InClause v) (eq_z l top) (l ∷ below) (climb links n top (parent_in links (slot_of l)) (l ∷ below)) (L.above, (L.within, b))
    (climb_in F n top (parent_in links (slot_of l)) (l ∷ below) (F.parent_literal (slot_of l) (slot_in F L)) (L.above, (L.within, b)))

climb_length : (links : List ℤ) (n : ℕ) (top l : ℤ) (below : List ℤ) → length (climb links n top l below) ≤ n + 1 + length below
unfolding climb
climb_length links zero top l below = omega arith
climb_length links (suc n) top l below =
    either (λ (C : List ℤ). length C ≤ suc n + 1 + length below) (eq_z l top) (l ∷ below) (climb links n top (parent_in links (slot_of l)) (l ∷ below)) (omega arith)
    (omega (arith, climb_length links n top (parent_in links (slot_of l)) (l ∷ below)))

in_small : (v : ℕ) → v ≤ 1024 → (c : List ℤ) → InClause v c → (k : ℕ) → k < length c → Small (get_or c k (pos 0))
unfolding InClause
in_small v few [] i k h = absurd (omega arith)
in_small v few (l ∷ c) i zero h = record { small = omega (arith, i.1.0) }
in_small v few (l ∷ c) i (suc k) h = in_small v few c i.1.1 k (omega arith)

module _ {links : List ℤ} {e : Ends} (C : Climbable links e) where
  pub chain_in : InClause C.vars (chain_of links e)
  unfolding chain_of InClause
  chain_in = climb_in C.stamped.fresh 2047 e.top e.bottom [] C.between.bottom_literal tt

  chain_length : length (chain_of links e) ≤ 2048
  unfolding chain_of
  chain_length = omega (arith, climb_length links 2047 e.top e.bottom [])

  -- the line of a chain
  pub chain_short : length (clauses_text (chain_of links e ∷ [])) ≤ 12290
  unfolding total InClauses
  chain_short = omega (arith, clauses_short C.vars (chain_of links e ∷ []) C.stamped.few (chain_in, tt), chain_length)

  -- it can be printed
  pub chain_small : EachSmall (chain_of links e)
  chain_small = record { each = in_small C.vars C.stamped.few (chain_of links e) chain_in }

-- a row that ends with the chain, cut where it begins
pub row_chain : (links row : List ℤ) (r : ℕ) (e e₁ : Ends) → length row ≡ 2048 → drop r row ≡ chain_of links e₁ → e₁ ≡ e → take (2048 - r) (drop r row) ≡ chain_of links e
row_chain links row r e e₁ size is same = take_all (2048 - r) (drop r row) (omega (arith, size, length-drop r row)) ∙ is ∙ ap (chain_of links) same

-- one chain alone
pub one_line : (C : List ℤ) → clauses_text (C ∷ []) ≡ clause_text C
unfolding clauses_text
one_line C = append-nil (clause_text C)

-- the lines of chains
lines_short : (f : ℕ → List (List ℤ)) (n m i : ℕ) → i + m ≤ n → ((k : ℕ) → k < n → length (clauses_text (f k)) ≤ 12290) → length (clauses_text (gathered f m i)) ≤ 12290 * m
unfolding gathered clauses_text
lines_short f n zero i h each = omega arith
lines_short f n (suc m) i h each =
    omega (arith, ap length (text_append (f i) (gathered f m (suc i))), length-append (clauses_text (f i)) (clauses_text (gathered f m (suc i))), each i (omega arith), lines_short f n m (suc i) (omega arith) each)

pub chains_short : {links xs : List ℤ} {n : ℕ} → Chained links xs n → length (clauses_text (gathered (chain_at links xs) n 0)) ≤ 12585000
chains_short {links} {xs} {n} C = omega (arith, lines_short (chain_at links xs) n n 0 (omega arith) (λ k h. chain_short (C.each k h)), C.few)

-- ---- ends in a slice

flat_at : (es : List Ends) (k : ℕ) (d : Ends) → k < length es → ends_at (flat es) k ≡ get_or es k d
flat_at [] k d h = absurd (omega arith)
flat_at (e ∷ es) zero d h = refl
flat_at (e ∷ es) (suc k) d h =
    let a : 2 * suc k ≡ suc (suc (2 * k)) = omega arith in
    let b : 2 * suc k + 1 ≡ suc (suc (2 * k + 1)) = omega arith in
    (λ i. ends (get_or (flat (e ∷ es)) (a i) (pos 0)) (get_or (flat (e ∷ es)) (b i) (pos 0))) ∙ flat_at es k d (omega arith)

module _ (es : List Ends) (xs : List ℤ) {n : ℕ} (number : n ≡ length es) (pairs : take (2 * n) xs ≡ flat es) where
  pub listed_at : (k : ℕ) (d : Ends) → k < n → ends_at xs k ≡ get_or es k d
  listed_at k d h =
      (λ i. ends (sym (get_or-take (2 * n) xs (2 * k) (pos 0) (omega (arith, h))) i) (sym (get_or-take (2 * n) xs (2 * k + 1) (pos 0) (omega (arith, h))) i))
      ∙ ap (λ (ys : List ℤ). ends_at ys k) pairs
      ∙ flat_at es k d (omega (arith, number, h))

  pub listed_chained : {links : List ℤ} → n ≤ 1024 → 2 * n ≤ length xs → ((e : Ends) → Memᴰ e es → Climbable links e) → Chained links xs n
  listed_chained {links} few room each = record {
    few = few;
    room = room;
    each = λ k h. subst (Climbable links) (sym (listed_at k (ends_at xs k) h)) (each (get_or es k (ends_at xs k)) (get_d_mem es k (ends_at xs k) (omega (arith, number, h))));
  }

gathered_map : (links : List ℤ) (f : ℕ → List (List ℤ)) (d : Ends) (es : List Ends) (i : ℕ) → ((k : ℕ) → k < length es → f (i + k) ≡ chain_of links (get_or es k d) ∷ []) → gathered f (length es) i ≡ chains_of links es
unfolding gathered
gathered_map links f d [] i h = refl
gathered_map links f d (e ∷ es) i h =
    let one : f i ≡ chain_of links e ∷ [] = ap f (sym (add-zero i)) ∙ h 0 (omega arith) in
    (λ j. one j ++ gathered_map links f d es (suc i) (λ k lt. ap f (omega arith) ∙ h (suc k) (omega arith)) j)

pub listed_chains : (links xs : List ℤ) (es : List Ends) {n : ℕ} → n ≡ length es → take (2 * n) xs ≡ flat es → gathered (chain_at links xs) n 0 ≡ chains_of links es
listed_chains links xs es {n} number pairs =
    ap (λ (m : ℕ). gathered (chain_at links xs) m 0) number
    ∙ gathered_map links (chain_at links xs) (ends (pos 0) (pos 0)) es 0 (λ k lt. ap (λ (e : Ends). chain_of links e ∷ []) (ap (ends_at xs) (omega arith) ∙ listed_at es xs number pairs k (ends (pos 0) (pos 0)) (omega (arith, number, lt))))
