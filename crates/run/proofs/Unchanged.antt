-- No clause, class or value differs: the three comparisons of the code, and what stood before a round from its copies. Assumes nothing.
use Prim.Native.Nat.{ℕ, zero, suc, ◌+◌, ◌*◌, ◌≤◌, ◌<◌}
use native.Mathlib.Numerals.{add-one}
use native.Mathlib.Omega.{arith}
use mathlib.Core.Path.{◌≡◌, refl, sym, ap, ap₂, subst, ◌∙◌}
use mathlib.Core.Bool.{Bool, true, false, ◌&&◌}
use mathlib.Core.Logic.{⊎_elim}
use mathlib.Core.List.{List, [], ◌∷◌}
use lib.ListN.{length, get_or, take, drop}
use lib.Seq.{get_or-take, take-take, take-nil, length-take-le}
use lib.Dec.{eqb}
use lib.IntN.{ℤ}
use borrow.Author.Tests.{eqb-true}
use Rattle.base.specs.Decide.{same_or}
use Rattle.base.specs.Lists.{all_below, same_list}
use Rattle.literal.specs.Literals.{eq_z}
use Rattle.state.specs.declared.State.{State}
use Rattle.tables.specs.Tables.{Tables, tables, start_of, length_of}
use Rattle.tables.specs.Clauses.{literals_of}
use Rattle.settle.specs.Settle.{Standing}
use Rattle.run.specs.Run.{unchanged}
use Rattle.settle.specs.Steps.{standing_in}
use Rattle.run.specs.Steps.{Runs, Saved, Comparable}

-- ---- lists

same_equal : (a b : List ℕ) → same_list eqb a b ≡ true → a ≡ b
unfolding same_list
same_equal [] [] e = refl
same_equal [] (y ∷ b) e = absurd (let z : ◌≡◌ {A = ℕ} 0 1 = cc in omega arith)
same_equal (x ∷ a) [] e = absurd (let z : ◌≡◌ {A = ℕ} 0 1 = cc in omega arith)
same_equal (x ∷ a) (y ∷ b) e = go (eqb x y) refl e (same_equal a b)
  where
    go : (t : Bool) → eqb x y ≡ t → elim t as (λ u. Bool) [ true ↦ same_list eqb a b | false ↦ false ] ≡ true → (same_list eqb a b ≡ true → a ≡ b) → x ∷ a ≡ y ∷ b
    go true h e rest = let p = eqb-true x y h in let q = rest e in λ j. p j ∷ q j
    go false h e rest = absurd (let z : ◌≡◌ {A = ℕ} 0 1 = cc in omega arith)

below_same : (f g : ℕ → Bool) (n : ℕ) → ((i : ℕ) → i < n → f i ≡ g i) → all_below n f ≡ all_below n g
unfolding all_below
below_same f g zero h = refl
below_same f g (suc n) h = (λ j. elim (h n (omega arith) j) as (λ u. Bool) [ true ↦ all_below n f | false ↦ false ]) ∙ ap (λ (r : Bool). elim (g n) as (λ u. Bool) [ true ↦ r | false ↦ false ]) (below_same f g n (λ i lt. h i (omega arith)))

-- every number so far passes, and the next one too; or one fails
pub below_none : (test : ℕ → Bool) → all_below 0 test ≡ true
unfolding all_below
below_none test = refl

pub below_next : (test : ℕ → Bool) (i : ℕ) → all_below i test ≡ true → test i ≡ true → all_below (i + 1) test ≡ true
unfolding all_below
below_next test i e h = ap (λ (n : ℕ). all_below n test) (add-one i) ∙ ap (λ (b : Bool). elim b as (λ u. Bool) [ true ↦ all_below i test | false ↦ false ]) h ∙ e

pub below_fails : (test : ℕ → Bool) (n i : ℕ) → i < n → test i ≡ false → all_below n test ≡ false
unfolding all_below
below_fails test zero i lt e = absurd (omega arith)
below_fails test (suc n) i lt e =
    ⊎_elim
    (λ (q : i ≡ n). ap (λ (b : Bool). elim b as (λ u. Bool) [ true ↦ all_below n test | false ↦ false ]) (ap test (sym q) ∙ e))
    (λ (d : i ≡ n → ⊥). go (test n) (below_fails test n i (omega arith) e))
    (same_or i n)
  where
    go : (b : Bool) → all_below n test ≡ false → elim b as (λ u. Bool) [ true ↦ all_below n test | false ↦ false ] ≡ false
    go true h = h
    go false h = refl

-- a part that lies in the front of a list
part_of_front : (l : List ℤ) (s n m : ℕ) → s + n ≤ m → take n (drop s (take m l)) ≡ take n (drop s l)
part_of_front l zero n m le = take-take n m l (omega arith)
part_of_front [] (suc s) n m le = ap (λ (x : List ℤ). take n (drop (suc s) x)) (take-nil m)
part_of_front (x ∷ l) (suc s) n zero le = absurd (omega arith)
part_of_front (x ∷ l) (suc s) n (suc m) le = part_of_front l s n m (omega arith)

-- ---- the three comparisons

module _ (n : ℕ) (c c' : List ℕ) (l l' : List ℤ) where
  -- by each table's own records
  abbrev own : ℕ → Bool
  own i = same_list eq_z (literals_of c l i) (literals_of c' l' i)

  -- by the records of the first
  abbrev one : ℕ → Bool
  one i = same_list eq_z (literals_of c l i) (literals_of c l' i)

  records_same : same_list eqb (take (3 * n) c) (take (3 * n) c') ≡ true → (j : ℕ) → j < 3 * n → get_or c j 0 ≡ get_or c' j 0
  records_same e j lt = sym (get_or-take (3 * n) c j 0 lt) ∙ ap (λ (x : List ℕ). get_or x j 0) (same_equal (take (3 * n) c) (take (3 * n) c') e) ∙ get_or-take (3 * n) c' j 0 lt

  parts_same : same_list eqb (take (3 * n) c) (take (3 * n) c') ≡ true → all_below n one ≡ all_below n own
  parts_same e = below_same one own n (λ i lt. ap₂ (λ (s m : ℕ). same_list eq_z (literals_of c l i) (take m (drop s l'))) (records_same e (3 * i) (omega arith)) (records_same e (3 * i + 1) (omega arith)))

module _ (v n : ℕ) (c c' : List ℕ) (l l' x x' : List ℤ) (st st' : State) (times times' : List ℕ) (links links' : List ℤ) (ev : st.v ≡ v) (en : st.n ≡ n) where
  abbrev w : Standing
  w = standing_in (tables c l x times links) st

  abbrev w' : Standing
  w' = standing_in (tables c' l' x' times' links') st'

  abbrev by : ℕ → ℕ → Bool
  by u m = same_list eqb (take (3 * m) c) (take (3 * m) c') && (all_below m (own m c c' l l') && same_list eq_z (take (2 * u) x) (take (2 * u) x'))

  is : unchanged w w' ≡ by v n
  unfolding unchanged
  is = ap₂ by ev en

  pub records_differ : same_list eqb (take (3 * n) c) (take (3 * n) c') ≡ false → false ≡ unchanged w w'
  records_differ e = sym (is ∙ ap (λ (b : Bool). b && (all_below n (own n c c' l l') && same_list eq_z (take (2 * v) x) (take (2 * v) x'))) e)

  module _ (e : same_list eqb (take (3 * n) c) (take (3 * n) c') ≡ true) where
    rest : unchanged w w' ≡ all_below n (one n c c' l l') && same_list eq_z (take (2 * v) x) (take (2 * v) x')
    rest = is ∙ ap (λ (b : Bool). b && (all_below n (own n c c' l l') && same_list eq_z (take (2 * v) x) (take (2 * v) x'))) e ∙ ap (λ (b : Bool). b && same_list eq_z (take (2 * v) x) (take (2 * v) x')) (sym (parts_same n c c' l l' e))

    pub parts_differ : all_below n (one n c c' l l') ≡ false → false ≡ unchanged w w'
    parts_differ h = sym (rest ∙ ap (λ (b : Bool). b && same_list eq_z (take (2 * v) x) (take (2 * v) x')) h)

    pub variables_tell : all_below n (one n c c' l l') ≡ true → same_list eq_z (take (2 * v) x) (take (2 * v) x') ≡ unchanged w w'
    variables_tell h = sym (rest ∙ ap (λ (b : Bool). b && same_list eq_z (take (2 * v) x) (take (2 * v) x')) h)

-- ---- the copies

module _ {w : Standing} (R : Runs w) (w' : Standing) where
  abbrev t : Tables
  t = w.tables

  abbrev saved : Standing
  saved = standing_in (tables (take 12288 t.clauses) (take 16384 t.literals) (take 2048 t.variables) t.times t.links) w.state

  clause_saved : (i : ℕ) → i < w.state.n → literals_of (take 12288 t.clauses) (take 16384 t.literals) i ≡ literals_of t.clauses t.literals i
  clause_saved i lt =
      let few = R.shape.n_limit in
      ap₂ (λ (s m : ℕ). take m (drop s (take 16384 t.literals))) (get_or-take 12288 t.clauses (3 * i) 0 (omega arith)) (get_or-take 12288 t.clauses (3 * i + 1) 0 (omega arith))
      ∙ part_of_front t.literals (start_of t.clauses i) (length_of t.clauses i) 16384 (R.shape.clauses.parts.inside i lt)

  pub saved_tells : unchanged saved w' ≡ unchanged w w'
  unfolding unchanged
  saved_tells =
      let n = w.state.n in let v = w.state.v in
      ap₂ (λ (a : List ℕ) (b : Bool). same_list eqb a (take (3 * n) w'.tables.clauses) && b) (take-take (3 * n) 12288 t.clauses (omega (arith, R.shape.n_limit)))
      (ap₂ (λ (a b : Bool). a && b)
      (below_same (λ i. same_list eq_z (literals_of saved.tables.clauses saved.tables.literals i) (literals_of w'.tables.clauses w'.tables.literals i)) (λ i. same_list eq_z (literals_of t.clauses t.literals i) (literals_of w'.tables.clauses w'.tables.literals i)) n
      (λ i lt. ap (λ (a : List ℤ). same_list eq_z a (literals_of w'.tables.clauses w'.tables.literals i)) (clause_saved i lt)))
      (ap (λ (a : List ℤ). same_list eq_z a (take (2 * v) w'.tables.variables)) (take-take (2 * v) 2048 t.variables (omega (arith, R.shape.v_limit)))))

  module _ {kept : List ℕ} {parts rows : List ℤ} (C : Saved t.clauses t.literals t.variables kept parts rows) where
    -- the copies tell what the tables would
    pub copies_tell : unchanged (standing_in (tables kept parts rows t.times t.links) w.state) w' ≡ unchanged w w'
    copies_tell = (λ j. unchanged (standing_in (tables (C.first j) (C.second j) (C.third j) t.times t.links) w.state) w') ∙ saved_tells

    kept_size : length kept ≡ 12288
    kept_size = ap length C.first ∙ length-take-le 12288 t.clauses R.shape.long.clauses

    parts_size : length parts ≡ 16384
    parts_size = ap length C.second ∙ length-take-le 16384 t.literals R.shape.long.literals

    inside : (i : ℕ) → i < w.state.n → start_of kept i + length_of kept i ≤ 16384
    inside i lt =
        let few = R.shape.n_limit in
        subst (λ (k : List ℕ). start_of k i + length_of k i ≤ 16384) (sym C.first)
        (omega (arith, get_or-take 12288 t.clauses (3 * i) 0 (omega arith), get_or-take 12288 t.clauses (3 * i + 1) 0 (omega arith), R.shape.clauses.parts.inside i lt))

    pub copies_compare : (c' : List ℕ) (l' x' : List ℤ) → length c' ≡ length t.clauses → length l' ≡ length t.literals → length x' ≡ length t.variables → Comparable w.state.v w.state.n kept parts c' l' x'
    copies_compare c' l' x' ec el ex = record {
      few = R.shape.v_limit;
      inside = record { number = R.shape.n_limit; records = omega (arith, kept_size); parts = inside; first = omega (arith, parts_size); second = omega (arith, el, R.shape.long.literals) };
      records = omega (arith, ec, R.shape.long.clauses);
      rows = omega (arith, ex, R.shape.long.variables);
    }
