-- The shape rule and its part for clauses and variables; what it says of one clause's view; and that setting a value keeps it. Assumes nothing.
use Prim.Native.Nat.{ℕ, ◌+◌, ◌*◌, ◌-◌, ◌≤◌, ◌<◌}
use native.Mathlib.Omega.{arith}
use mathlib.Core.Path.{◌≡◌, refl, sym, ap, subst, ◌∙◌}
use mathlib.Core.Bool.{Bool, true, false}
use mathlib.Core.List.{List}
use mathlib.Core.Logic.{⊎_elim}
use lib.ListN.{length, get_or, set, length-set}
use lib.Seq.{get_or-set_same, get_or-set_other, set-get_or}
use lib.Dec.{ltb}
use lib.IntN.{ℤ, pos, nat_abs}
use Rattle.base.specs.Decide.{same_or}
use Rattle.literal.specs.Literals.{Literal}
use Rattle.state.specs.declared.State.{State}
use Rattle.programmes.specs.Rules.{Passing}
use Rattle.tables.specs.Tables.{Tables, start_of, length_of, standing, class_of, value_of}
use Rattle.tables.specs.Clauses.{literals_of}
use Rattle.shape.specs.Shape.{Variable, Spread, settled_to, Cursor, Shape}
use Rattle.stamps.specs.Fresh.{FreshStamps}
use Rattle.visits.specs.Formed.{Variables, Formed, FitClause, EachKnown}
use Rattle.visits.proofs.Stores.{fit_view, recorded}
use Rattle.visits.proofs.Placing.{view_length}

-- ---- the rule and its part

pub shape_formed : {t : Tables} {st : State} → Shape t st → Formed st.v st.n (settled_to st.pass st.n) st.mark t.clauses t.literals t.variables
shape_formed S = record {
  number = S.n_limit;
  records = S.long.clauses;
  places = S.long.literals;
  rule = S.clauses;
  vars = record { few = S.v_limit; room = S.long.variables; each = S.variables };
}

pub formed_shape : (t : Tables) (st : State) → Formed st.v st.n (settled_to st.pass st.n) st.mark t.clauses t.literals t.variables → 4096 ≤ length t.times → 4096 ≤ length t.links
    → Spread st.v t.variables → Cursor st.pass st.n st.mark → (st.fresh ≡ true → FreshStamps st.v t.times t.links) → Passing st.programme → Shape t st
formed_shape t st F times links values cursor stamps programme = record {
  long = record { clauses = F.records; literals = F.places; variables = F.vars.room; times = times; links = links };
  v_limit = F.vars.few;
  n_limit = F.number;
  clauses = F.rule;
  variables = F.vars.each;
  values = values;
  cursor = cursor;
  stamps = stamps;
  programme = programme;
}

-- ---- one clause

module _ {v n s : ℕ} {mark : Bool} {c : List ℕ} {l variables : List ℤ} (F : Formed v n s mark c l variables) (i : ℕ) (lt : i < n) where
  pub part_inside : start_of c i + length_of c i ≤ length l
  part_inside = omega (arith, F.rule.parts.inside i lt, F.places)

  pub clause_fits : FitClause v variables (ltb i s) (literals_of c l i)
  clause_fits = fit_view v l variables (ltb i s) (start_of c i) (length_of c i) part_inside (F.rule.each i lt)

  pub record_inside : 3 * i + 2 < length c
  record_inside = omega (arith, F.records, F.number, lt)

  -- its record and its number, as the code asks them
  pub record_place : (3 * i + 2 < length c) × (i ≤ 4096)
  record_place = (record_inside, omega (arith, lt, F.number))

  -- its part lies in the table, and within the places that are stated
  pub part_places : (start_of c i + length_of c i ≤ length l) × (start_of c i + length_of c i ≤ 16384)
  part_places = (part_inside, F.rule.parts.inside i lt)

  pub part_length : length (literals_of c l i) ≡ length_of c i
  part_length = view_length i c l part_inside

  pub part_short : length (literals_of c l i) ≤ 16384
  part_short = omega (arith, part_length, part_places.1)

  pub clause_known : EachKnown variables (literals_of c l i)
  clause_known = record { each = λ j h. record { count = v; rows = F.vars; ranged = clause_fits.ranged j h } }

  -- the flag of a clause that is not dropped
  pub stands_one : (standing c i ≡ 0 → ⊥) → standing c i ≡ 1
  stands_one d = omega (arith, F.rule.parts.flag i lt, d)

-- under the mark a clause may stand empty
pub formed_marked : {v n s : ℕ} {c : List ℕ} {l w : List ℤ} → Formed v n s false c l w → Formed v n s true c l w
formed_marked F = record { number = F.number; records = F.records; places = F.places; rule = record { parts = F.rule.parts; each = F.rule.each; empty = λ i lt a b. refl }; vars = F.vars }

-- a record whose flag is written again
pub recorded_same : (c : List ℕ) (i m : ℕ) → recorded c i m (standing c i) ≡ set c (3 * i + 1) m
recorded_same c i m =
    ap (λ (f : ℕ). set (set c (3 * i + 1) m) (3 * i + 2) f) (sym (get_or-set_other c (3 * i + 1) (3 * i + 2) m 0 (λ e. omega arith))) ∙ set-get_or (set c (3 * i + 1) m) (3 * i + 2) 0

-- ---- values

-- the tables with other variable records of the same classes
pub formed_values : {v n s : ℕ} {mark : Bool} {c : List ℕ} {l w w' : List ℤ} → Formed v n s mark c l w → ((u : ℕ) → class_of w' u ≡ class_of w u) → Variables v w' → Formed v n s mark c l w'
formed_values {v} {n} {s} {mark} {c} {l} {w} {w'} F same R = record {
  number = F.number;
  records = F.records;
  places = F.places;
  rule = record {
    parts = F.rule.parts;
    each = λ i lt. record {
      ranged = (F.rule.each i lt).ranged;
      once = (F.rule.each i lt).once;
      own = λ e k h. same (nat_abs (get_or l (start_of c i + k) (pos 0))) ∙ (F.rule.each i lt).own e k h;
    };
    empty = F.rule.empty;
  };
  vars = R;
}

-- a variable's record with another value
variable_as : (w w' : List ℤ) (u : ℕ) → ((k : ℕ) → class_of w' k ≡ class_of w k) → Variable w u → nat_abs (value_of w' u) ≤ 1 → Variable w' u
variable_as w w' u same X tri = record {
  class = subst (Literal u) (sym (same u)) X.class;
  own = ap (λ (z : ℤ). class_of w' (nat_abs z)) (same u) ∙ same (nat_abs (class_of w u)) ∙ X.own ∙ ap (λ (z : ℤ). pos (nat_abs z)) (sym (same u));
  value = tri;
}

-- the value of a variable set
module _ {v : ℕ} {w : List ℤ} (R : Variables v w) (u : ℕ) (above : 0 < u) (within : u ≤ v) (x : ℤ) (tri : nat_abs x ≤ 1) where
  pub set_classes : (k : ℕ) → class_of (set w (2 * u - 1) x) k ≡ class_of w k
  set_classes k = get_or-set_other w (2 * u - 1) (2 * k - 2) x (pos 0) (λ e. omega (arith, e, above))

  pub set_value : value_of (set w (2 * u - 1) x) u ≡ x
  set_value = get_or-set_same w (2 * u - 1) x (pos 0) (omega (arith, R.room, R.few, within))

  pub set_others : (k : ℕ) → 0 < k → (k ≡ u → ⊥) → value_of (set w (2 * u - 1) x) k ≡ value_of w k
  set_others k pk d = get_or-set_other w (2 * u - 1) (2 * k - 1) x (pos 0) (λ e. d (omega (arith, e, above, pk)))

  pub set_variables : Variables v (set w (2 * u - 1) x)
  set_variables = record {
    few = R.few;
    room = simp length-set R.room;
    each = λ k lt.
        variable_as w (set w (2 * u - 1) x) (k + 1) set_classes (R.each k lt)
        (⊎_elim
        (λ (e : k + 1 ≡ u). subst (λ (y : ℕ). nat_abs (value_of (set w (2 * u - 1) x) y) ≤ 1) (sym e) (subst (λ (y : ℤ). nat_abs y ≤ 1) (sym set_value) tri))
        (λ d. subst (λ (y : ℤ). nat_abs y ≤ 1) (sym (set_others (k + 1) (omega arith) d)) (R.each k lt).value)
        (same_or (k + 1) u));
  }
