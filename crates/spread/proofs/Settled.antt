-- Refusal 6 asks for values of variables in clauses that are settled, so that each is its own class: spreading changes no answer. Assumes nothing.
use Prim.Native.Nat.{ℕ, ◌<◌}
use native.Mathlib.Omega.{arith}
use mathlib.Core.Path.{◌≡◌, ap, subst}
use mathlib.Core.Bool.{Bool, not, ◌&&◌, ◌||◌}
use mathlib.Core.List.{Memᴰ}
use lib.Dec.{eqb}
use lib.IntN.{ℤ, pos, nat_abs}
use borrow.Author.Tests.{lt-ltb}
use Rattle.base.proofs.Lists.{any_same, mem_get_d}
use Rattle.base.proofs.Searches.{first_same}
use Rattle.literal.specs.Literals.{eq_z}
use Rattle.tables.specs.Tables.{Tables, length_of, standing, class_of}
use Rattle.tables.specs.Clauses.{literals_of}
use Rattle.tables.specs.Passes.{valued, unsettled, first_unsettled}
use Rattle.visits.proofs.Forming.{clause_fits}
use Rattle.visits.proofs.Fitting.{fit_member}
use Rattle.visits.proofs.StoreKeeps.{FormedIn}
use Rattle.spread.specs.Spread.{spread, spread_tables}
use Rattle.spread.proofs.Spreading.{spread_alike}

module _ {v n : ℕ} (t : Tables) (F : FormedIn v n t) where
  value_stays : (i : ℕ) → i < n → (l : ℤ) → Memᴰ l (literals_of t.clauses t.literals i) → valued (spread v t.variables) l ≡ valued t.variables l
  value_stays i lt l m =
      let j = mem_get_d (literals_of t.clauses t.literals i) (pos 0) m in
      let own = subst (λ (x : ℤ). class_of t.variables (nat_abs x) ≡ pos (nat_abs x)) j.2 ((clause_fits F i lt).own (lt-ltb i n lt) j.0 j.1) in
      ap (λ (z : ℤ). not (eq_z z (pos 0))) ((spread_alike F.vars).owns (nat_abs l) (fit_member (clause_fits F i lt) m).above own)

  pub unsettled_spread : first_unsettled (spread_tables v t) n ≡ first_unsettled t n
  unfolding first_unsettled
  unsettled_spread =
      first_same (unsettled (spread_tables v t)) (unsettled t) n 0
      (λ i le lt.
      ap (λ (b : Bool). eqb (standing t.clauses i) 1 && (eqb (length_of t.clauses i) 1 || b))
      (any_same (valued (spread v t.variables)) (valued t.variables) (literals_of t.clauses t.literals i) (value_stays i (omega arith))))
