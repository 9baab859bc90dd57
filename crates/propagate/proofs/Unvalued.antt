-- Clauses without a valued variable: one of which a visit takes nothing away, and what a visit leaves. Assumes nothing.
use Prim.Native.Nat.{ℕ, zero, suc, ◌≤◌}
use native.Mathlib.Omega.{arith}
use mathlib.Core.Path.{◌≡◌, refl, sym, ap, ◌∙◌}
use mathlib.Core.Bool.{Bool, true, false, not, false≢true}
use mathlib.Core.List.{List, [], ◌∷◌}
use lib.ListN.{length}
use lib.IntN.{ℤ, pos, negsuc, neg_ℤ, nat_abs}
use lib.Signed.{non_neg}
use borrow.Author.Tests.{ne_eqb}
use Rattle.base.specs.Lists.{any, filter}
use Rattle.base.proofs.Lists.{any_here, any_next, filter_in, filter_out}
use Rattle.literal.specs.Literals.{eq_z, sign_by}
use Rattle.tables.specs.Tables.{class_of, value_of}
use Rattle.tables.specs.Values.{class_literal, own_truth, is_true, is_false}
use Rattle.tables.specs.Passes.{valued}
use Rattle.visits.specs.Formed.{Variables, FitClause, Known}
use Rattle.visits.proofs.Fitting.{fit_head, fit_tail, filter_shorter}
use Rattle.visits.proofs.Known.{known_row}
use Rattle.propagate_visits.specs.Visits.{not_false}

-- ---- one literal

-- a literal whose variable is its own class is its class literal
pub own_literal : (w : List ℤ) (l : ℤ) → class_of w (nat_abs l) ≡ pos (nat_abs l) → class_literal w l ≡ l
own_literal w (pos m) e = e
own_literal w (negsuc m) e = ap neg_ℤ e

-- a value that makes a literal neither true nor false is 0
by_sign : (b : Bool) (x : ℤ) → nat_abs x ≤ 1 → eq_z (sign_by b x) (pos 1) ≡ false → eq_z (sign_by b x) (negsuc 0) ≡ false → not (eq_z x (pos 0)) ≡ false
by_sign b (pos zero) h e f = refl
by_sign true (pos (suc zero)) h e f = absurd (false≢true (sym e))
by_sign false (pos (suc zero)) h e f = absurd (false≢true (sym f))
by_sign b (pos (suc (suc m))) h e f = absurd (omega arith)
by_sign true (negsuc zero) h e f = absurd (false≢true (sym f))
by_sign false (negsuc zero) h e f = absurd (false≢true (sym e))
by_sign b (negsuc (suc m)) h e f = absurd (omega arith)

pub unvalued : (w : List ℤ) (l : ℤ) → class_of w (nat_abs l) ≡ pos (nat_abs l) → nat_abs (value_of w (nat_abs l)) ≤ 1 → is_true w l ≡ false → is_false w l ≡ false → valued w l ≡ false
unvalued w l own tri e f =
    by_sign (non_neg l) (value_of w (nat_abs l)) tri (sym (ap (λ (c : ℤ). eq_z (own_truth w c) (pos 1)) (own_literal w l own)) ∙ e) (sym (ap (λ (c : ℤ). eq_z (own_truth w c) (negsuc 0)) (own_literal w l own)) ∙ f)

-- ---- a clause

pub record Untouched (w C : List ℤ) : Type 0 where
  pub unvalued : any (valued w) C ≡ false
  pub whole : not_false w C ≡ C

-- no literal is true, and as many as there were are not false
pub untouched : (v : ℕ) (w C : List ℤ) → Variables v w → FitClause v w true C → any (is_true w) C ≡ false → length C ≤ length (not_false w C) → Untouched w C
unfolding any filter
untouched v w [] R F e h = record { unvalued = refl; whole = refl }
untouched v w (x ∷ C) R F e h = go (λ d s. untouched v w C R (fit_tail F) d s) (is_true w x) refl (is_false w x) refl
  where
    go : (any (is_true w) C ≡ false → length C ≤ length (not_false w C) → Untouched w C) → (a : Bool) → is_true w x ≡ a → (b : Bool) → is_false w x ≡ b → Untouched w (x ∷ C)
    go rest true p b q = absurd (false≢true (sym e ∙ any_here (is_true w) x C p))
    go rest false p true q =
        absurd (omega (arith, h, ap length (filter_out (λ l. not (is_false w l)) x C (ap not q)), filter_shorter (λ l. not (is_false w l)) C))
    go rest false p false q =
        let stays = filter_in (λ l. not (is_false w l)) x C (ap not q) in
        let R' = rest (sym (any_next (is_true w) x C p) ∙ e) (omega (arith, h, ap length stays)) in
        record {
          unvalued = any_next (valued w) x C (unvalued w x ((fit_head F).own refl) (known_row known).value p q) ∙ R'.unvalued;
          whole = stays ∙ ap (λ (D : List ℤ). x ∷ D) R'.whole;
        }
      where
        known : Known w x
        known = record { count = v; rows = R; ranged = (fit_head F).ranged }

-- a literal that has no value is neither true nor false
zero_sign : (b : Bool) (x : ℤ) → not (eq_z x (pos 0)) ≡ false → (eq_z (sign_by b x) (pos 1) ≡ false) × (eq_z (sign_by b x) (negsuc 0) ≡ false)
zero_sign true (pos zero) e = (refl, refl)
zero_sign false (pos zero) e = (refl, refl)
zero_sign b (pos (suc m)) e = absurd (false≢true (sym e ∙ ap not (ne_eqb (suc m) 0 (λ z. omega arith))))
zero_sign b (negsuc m) e = absurd (false≢true (sym e))

undecided : (w : List ℤ) (l : ℤ) → class_of w (nat_abs l) ≡ pos (nat_abs l) → valued w l ≡ false → (is_true w l ≡ false) × (is_false w l ≡ false)
undecided w l own e =
    let z = zero_sign (non_neg l) (value_of w (nat_abs l)) e in
    (ap (λ (c : ℤ). eq_z (own_truth w c) (pos 1)) (own_literal w l own) ∙ z.0, ap (λ (c : ℤ). eq_z (own_truth w c) (negsuc 0)) (own_literal w l own) ∙ z.1)

-- a clause without a valued variable has no true literal and no false one
pub quiet_clause : (v : ℕ) (w C : List ℤ) → FitClause v w true C → any (valued w) C ≡ false → (any (is_true w) C ≡ false) × (not_false w C ≡ C)
unfolding any filter
quiet_clause v w [] F e = (refl, refl)
quiet_clause v w (x ∷ C) F e = go (λ d. quiet_clause v w C (fit_tail F) d) (valued w x) refl
  where
    go : (any (valued w) C ≡ false → (any (is_true w) C ≡ false) × (not_false w C ≡ C)) → (a : Bool) → valued w x ≡ a → (any (is_true w) (x ∷ C) ≡ false) × (not_false w (x ∷ C) ≡ x ∷ C)
    go rest true p = absurd (false≢true (sym e ∙ any_here (valued w) x C p))
    go rest false p =
        let R = rest (sym (any_next (valued w) x C p) ∙ e) in
        let U = undecided w x ((fit_head F).own refl) p in
        (any_next (is_true w) x C U.0 ∙ R.0, filter_in (λ l. not (is_false w l)) x C (ap not U.1) ∙ ap (λ (D : List ℤ). x ∷ D) R.1)

-- what a visit leaves has no valued variable
pub left_quiet : (v : ℕ) (w C : List ℤ) → Variables v w → FitClause v w true C → any (is_true w) C ≡ false → any (valued w) (not_false w C) ≡ false
unfolding any filter
left_quiet v w [] R F e = refl
left_quiet v w (x ∷ C) R F e = go (λ d. left_quiet v w C R (fit_tail F) d) (is_true w x) refl (is_false w x) refl
  where
    known : Known w x
    known = record { count = v; rows = R; ranged = (fit_head F).ranged }

    go : (any (is_true w) C ≡ false → any (valued w) (not_false w C) ≡ false) → (a : Bool) → is_true w x ≡ a → (b : Bool) → is_false w x ≡ b → any (valued w) (not_false w (x ∷ C)) ≡ false
    go rest true p b q = absurd (false≢true (sym e ∙ any_here (is_true w) x C p))
    go rest false p true q = ap (any (valued w)) (filter_out (λ l. not (is_false w l)) x C (ap not q)) ∙ rest (sym (any_next (is_true w) x C p) ∙ e)
    go rest false p false q =
        ap (any (valued w)) (filter_in (λ l. not (is_false w l)) x C (ap not q))
        ∙ any_next (valued w) x (not_false w C) (unvalued w x ((fit_head F).own refl) (known_row known).value p q)
        ∙ rest (sym (any_next (is_true w) x C p) ∙ e)
