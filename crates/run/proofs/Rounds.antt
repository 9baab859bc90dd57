-- The two loops: over the codes of the programme, and over the rounds. What is left from here gives what the whole gives. Assumes nothing.
use Prim.Native.Nat.{ℕ, suc, ◌+◌, ◌-◌, ◌≤◌, ◌<◌}
use native.Mathlib.Numerals.{add-one}
use native.Mathlib.Omega.{arith}
use mathlib.Core.Path.{◌≡◌, refl, sym, ap, ap₂, subst, ◌∙◌}
use mathlib.Core.Bool.{Bool, true, false, ◌||◌}
use mathlib.Core.List.{List, ◌∷◌}
use lib.ListN.{length, get_or, drop, drop_of_length-le}
use lib.Seq.{drop-cons}
use Rattle.base.proofs.Booleans.{or_left}
use Rattle.tables.specs.Tables.{Tables}
use Rattle.settle.specs.Settle.{Standing}
use Rattle.run.specs.Run.{follow, round, unchanged, Rounds, rounds, run_from}
use Rattle.run.specs.Steps.{Runs}
use Rattle.run.proofs.RoundKeeps.{follow_runs, round_stops, round_goes, round_runs}

-- tables as long as others
pub record Sized (t t' : Tables) : Type 0 where
  pub clauses : length t'.clauses ≡ length t.clauses
  pub literals : length t'.literals ≡ length t.literals
  pub variables : length t'.variables ≡ length t.variables
  pub times : length t'.times ≡ length t.times
  pub links : length t'.links ≡ length t.links

sized_none : (t : Tables) → Sized t t
sized_none t = record { clauses = refl; literals = refl; variables = refl; times = refl; links = refl }

sized_more : {a b c : Tables} → Sized a b → Sized b c → Sized a c
sized_more S T = record {
  clauses = T.clauses ∙ S.clauses;
  literals = T.literals ∙ S.literals;
  variables = T.variables ∙ S.variables;
  times = T.times ∙ S.times;
  links = T.links ∙ S.links;
}

-- ---- the codes

pub record Following (codes : List ℕ) (k : ℕ) (w₀ w : Standing) (i : ℕ) : Type 0 where
  pub within : i ≤ length codes
  pub runs : Runs w
  pub left : round k (drop i codes) w ≡ round k codes w₀
  pub sizes : Sized w₀.tables w.tables

pub following_none : {codes : List ℕ} {k : ℕ} {w : Standing} → Runs w → Following codes k w w 0
following_none {codes} {k} {w} R = record { within = omega arith; runs = R; left = refl; sizes = sized_none w.tables }

module _ {codes : List ℕ} {k i : ℕ} {w₀ w : Standing} (L : Following codes k w₀ w i) where
  pub following_done : length codes ≤ i → w ≡ round k codes w₀
  unfolding round
  following_done le = ap (λ (l : List ℕ). round k l w) (sym (drop_of_length-le codes le)) ∙ L.left

  module _ (lt : i < length codes) (w' : Standing) (is : w' ≡ follow k (get_or codes i 0) w) where
    heads : round k (get_or codes i 0 ∷ drop (suc i) codes) w ≡ round k codes w₀
    heads = ap (λ (l : List ℕ). round k l w) (sym (drop-cons codes i 0 lt)) ∙ L.left

    pub following_stops : w'.state.mark ≡ true → w' ≡ round k codes w₀
    following_stops m = is ∙ sym (round_stops k (get_or codes i 0) (drop (suc i) codes) w (ap (λ (x : Standing). x.state.mark) (sym is) ∙ m)) ∙ heads

    pub following_more : w'.state.mark ≡ false → Sized w.tables w'.tables → Following codes k w₀ w' (i + 1)
    following_more m S = record {
      within = omega arith;
      runs = subst Runs (sym is) (follow_runs k (get_or codes i 0) L.runs unmarked);
      left = ap₂ (λ (j : ℕ) (x : Standing). round k (drop j codes) x) (add-one i) is ∙ sym (round_goes k (get_or codes i 0) (drop (suc i) codes) w unmarked) ∙ heads;
      sizes = sized_more L.sizes S;
    }
      where
        unmarked : (follow k (get_or codes i 0) w).state.mark ≡ false
        unmarked = ap (λ (x : Standing). x.state.mark) (sym is) ∙ m

-- ---- the rounds

pub record Rounding (codes : List ℕ) (count : ℕ) (w₀ w : Standing) (k : ℕ) : Type 0 where
  pub within : k ≤ count
  pub runs : Runs w
  pub left : run_from codes (count - k) k w ≡ run_from codes count 0 w₀
  pub sizes : Sized w₀.tables w.tables

pub rounding_none : (codes : List ℕ) (count : ℕ) {w : Standing} → Runs w → Rounding codes count w w 0
rounding_none codes count {w} R = record { within = omega arith; runs = R; left = ap (λ (m : ℕ). run_from codes m 0 w) (let q : count - 0 ≡ count = omega arith in q); sizes = sized_none w.tables }

-- one round of those that are left
one_stops : (codes : List ℕ) (m k : ℕ) (w : Standing) → ((round k codes w).state.mark || unchanged w (round k codes w)) ≡ true → run_from codes (suc m) k w ≡ rounds (suc k) (round k codes w)
unfolding run_from
one_stops codes m k w e = ap (λ (b : Bool). elim b as (λ x. Rounds) [ true ↦ rounds (suc k) (round k codes w) | false ↦ run_from codes m (suc k) (round k codes w) ]) e

one_goes : (codes : List ℕ) (m k : ℕ) (w : Standing) → ((round k codes w).state.mark || unchanged w (round k codes w)) ≡ false → run_from codes (suc m) k w ≡ run_from codes m (suc k) (round k codes w)
unfolding run_from
one_goes codes m k w e = ap (λ (b : Bool). elim b as (λ x. Rounds) [ true ↦ rounds (suc k) (round k codes w) | false ↦ run_from codes m (suc k) (round k codes w) ]) e

module _ {codes : List ℕ} {count k : ℕ} {w₀ w : Standing} (L : Rounding codes count w₀ w k) where
  pub rounding_done : count ≤ k → rounds k w ≡ run_from codes count 0 w₀
  unfolding run_from
  rounding_done le = ap (λ (m : ℕ). run_from codes m k w) (let q : 0 ≡ count - k = omega arith in q) ∙ L.left

  module _ (lt : k < count) (w' : Standing) (is : w' ≡ round k codes w) (stop : Bool) (tells : stop ≡ (w'.state.mark || unchanged w w')) where
    told : stop ≡ ((round k codes w).state.mark || unchanged w (round k codes w))
    told = tells ∙ ap (λ (x : Standing). x.state.mark || unchanged w x) is

    next : run_from codes (suc (count - (k + 1))) k w ≡ run_from codes count 0 w₀
    next = ap (λ (m : ℕ). run_from codes m k w) (let q : suc (count - (k + 1)) ≡ count - k = omega arith in q) ∙ L.left

    pub rounding_stops : stop ≡ true → rounds (k + 1) w' ≡ run_from codes count 0 w₀
    rounding_stops s = ap₂ rounds (add-one k) is ∙ sym (one_stops codes (count - (k + 1)) k w (sym told ∙ s)) ∙ next

    pub rounding_more : stop ≡ false → Sized w.tables w'.tables → Rounding codes count w₀ w' (k + 1)
    rounding_more s S = record {
      within = omega arith;
      runs = subst Runs (sym is) (round_runs k codes w L.runs (or_left _ _ (sym told ∙ s)));
      left = ap₂ (λ (j : ℕ) (x : Standing). run_from codes (count - (k + 1)) j x) (add-one k) is ∙ sym (one_goes codes (count - (k + 1)) k w (sym told ∙ s)) ∙ next;
      sizes = sized_more L.sizes S;
    }
