-- What fresh stamps of a clause's literals give the functions on its slots, and what the verdict on them says of the clause. Assumes nothing.
use Prim.Native.Nat.{ℕ, ◌+◌, ◌*◌, ◌≤◌, ◌<◌}
use native.Mathlib.Omega.{arith}
use mathlib.Core.Path.{◌≡◌, refl, sym, ap, subst, ◌∙◌}
use mathlib.Core.Bool.{Bool}
use mathlib.Core.List.Memᴰ
use mathlib.Core.List.{List, [], ◌∷◌, map, Memᴰ}
use lib.ListN.{length, get_or, length-map}
use lib.IntN.{ℤ}
use Rattle.base.proofs.Lists.{get_d_mem}
use Rattle.literal.specs.Literals.{slot_of, twin}
use Rattle.walk.specs.Walk.{Stamps}
use Rattle.stamp_columns.specs.Columns.{columns}
use Rattle.stamp_columns.specs.Slots.{Slots}
use Rattle.stamp_columns.proofs.Columns.{column_finishes}
use Rattle.hidden.specs.Hidden.{by_discovery, figure6, hidden_pair, hidden_tautology}
use Rattle.hidden.proofs.Intervals.{Nested}
use Rattle.hidden.proofs.FreshColumns.{fresh_nested}
use Rattle.hidden.proofs.Scan.{tautology_figure}
use Rattle.clause_slots.specs.Stamped.{Lits, StampedSlots, StampedClause}
use Rattle.clause_slots.proofs.Clause.{clause_within, clause_lits}
use Rattle.hidden_tautologies.specs.Judged.{Two, Scanned, Judged}

module _ {times : List ℕ} {links C : List ℤ} (J : Judged times links C) where
  -- only the times count for the intervals
  timed : Nested (2 * J.vars) (columns times [])
  timed = let N = fresh_nested times links J.vars J.stamped.fresh in record { spans = N.spans; parted = N.parted }

  pub judged_clause : StampedClause times C
  judged_clause = record {
    vars = J.vars;
    few = J.stamped.few;
    long = J.long;
    nested = timed;
    small = λ q lt. omega (arith, column_finishes times [] q, (J.stamped.fresh.every_time.ranged (2 * q + 1) (omega arith)).1, J.stamped.few);
    each = J.each;
  }

  pub judged_lits : Lits C
  judged_lits = clause_lits judged_clause

  judged_below : (x : ℕ) → Memᴰ x (map slot_of C) → (x < 2 * J.vars) × (twin x < 2 * J.vars)
  unfolding judged_clause
  judged_below x m = clause_within judged_clause x m

  judged_inside : StampedSlots times (map slot_of C)
  judged_inside = record { vars = J.vars; few = J.stamped.few; long = J.long; each = λ x m. (judged_below x m).0 }

  -- the slots of the part
  module _ (s : List ℕ) (slots : s ≡ map slot_of C) where
    pub judged_slots : Slots times s
    judged_slots = subst (Slots times) (sym slots) (record { size = 2 * J.vars; few = omega (arith, J.stamped.few); room = omega (arith, J.stamped.few, J.long); each = λ x m. (judged_below x m).0 })

    pub judged_scanned : Scanned times s (map twin s)
    judged_scanned = subst (λ (l : List ℕ). Scanned times l (map twin l)) (sym slots) (record {
      size = 2 * J.vars;
      few = omega (arith, J.stamped.few);
      room = omega (arith, J.stamped.few, J.long);
      nested = timed;
      one = λ x m. (judged_below x m).0;
      other = λ x m. let r = Memᴰ.of_map twin (map slot_of C) m in subst (λ (y : ℕ). y < 2 * J.vars) r.2 (judged_below r.0 r.1).1;
    })

    pub judged_two : length C ≡ 2 → Two times links (get_or s 0 0) (get_or s 1 0)
    judged_two e = subst (λ (l : List ℕ). Two times links (get_or l 0 0) (get_or l 1 0)) (sym slots) (record {
      vars = J.vars;
      stamped = J.stamped;
      one = (judged_below _ (get_d_mem (map slot_of C) 0 0 (omega (arith, length-map C slot_of, e)))).0;
      other = (judged_below _ (get_d_mem (map slot_of C) 1 0 (omega (arith, length-map C slot_of, e)))).0;
    })

-- ---- the two returns

-- of two literals the rule for pairs decides
of_two : (σ : Stamps) (C : List ℕ) → length C ≡ 2 → hidden_tautology σ C ≡ hidden_pair σ (get_or C 0 0) (get_or C 1 0)
unfolding hidden_tautology
of_two σ [] e = absurd (omega arith)
of_two σ (a ∷ []) e = absurd (omega arith)
of_two σ (a ∷ b ∷ []) e = refl
of_two σ (a ∷ b ∷ c ∷ ls) e = absurd (omega arith)

module _ (times : List ℕ) (links C : List ℤ) (s : List ℕ) (slots : s ≡ map slot_of C) (r : Bool) (u : List ℕ) where
  abbrev Verdict : Type 0
  Verdict = (r ≡ hidden_tautology (columns times links) (map slot_of C)) × (u ≡ by_discovery (columns times []) (map slot_of C))

  pub verdict_long : 2 ≤ length C → (length C ≡ 2 → ⊥) → ((k : List ℤ) → (r ≡ figure6 (columns times k) s) × (u ≡ by_discovery (columns times k) s)) → Verdict
  verdict_long two more e = (
    (e links).0 ∙ ap (figure6 (columns times links)) slots ∙ sym (tautology_figure (columns times links) (map slot_of C) (omega (arith, two, more, length-map C slot_of))),
    (e []).1 ∙ ap (by_discovery (columns times [])) slots,
  )

  pub verdict_pair : length C ≡ 2 → r ≡ hidden_pair (columns times links) (get_or s 0 0) (get_or s 1 0) → u ≡ by_discovery (columns times []) s → Verdict
  verdict_pair e h v = (
    h ∙ ap (λ (l : List ℕ). hidden_pair (columns times links) (get_or l 0 0) (get_or l 1 0)) slots ∙ sym (of_two (columns times links) (map slot_of C) (length-map C slot_of ∙ e)),
    v ∙ ap (by_discovery (columns times [])) slots,
  )
