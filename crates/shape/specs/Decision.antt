-- The shape rule is decidable, and `shape_ok` is the bool that the calls branch on. `shape_exact` says what it means.
-- Assumes nothing.
use Rattle.std.specs.Prelude.{ℕ, ◌+◌, ◌≡◌, Bool, true, false, List, get_or, ltb, ℤ, pos, nat_abs}
use Rattle.std.proofs.Math.Decide.{ℕ_discrete, dec_le, dec_lt}
use Rattle.base.specs.Decide.{Decides, does, does_exact, agrees, and?, if?, not?, so?, eqᵇ?, eqℤ?, every?}
use Rattle.stamps.specs.Decision.{literal?, fresh?}
use Rattle.tables.specs.Long.{long?}
use Rattle.tables.specs.Tables.{Tables, start_of, length_of, standing, variable_at, class_of, value_of}
use Rattle.tables.specs.Values.{class_value}
use Rattle.shape.specs.Shape.{Parts, Literals, Variable, Spread, settled_to, Cursor, Clauses, Shape}
use Rattle.state.specs.declared.State.{State}
use Rattle.programmes.specs.Judging.{passing?}
use Rattle.state.specs.declared.Pass.{Pass}
use Rattle.state.specs.declared.Pass.TheVariants.{Idle, Propagate, Merge, Sweep}

unfoldable pub parts? : (n : ℕ) (clauses : List ℕ) → Dec (Parts n clauses)
parts? n clauses =
    so?
    (λ h. record { flag = h.0; dropped = h.1.0; inside = h.1.1.0; rising = h.1.1.1.0; apart = h.1.1.1.1 })
    (λ (P : Parts n clauses). (P.flag, (P.dropped, (P.inside, (P.rising, P.apart)))))
    (and? (every? n (λ i. dec_le (standing clauses i) 1))
    (and? (every? n (λ i. if? (ℕ_discrete (standing clauses i) 0) (ℕ_discrete (length_of clauses i) 0)))
    (and? (every? n (λ i. dec_le (start_of clauses i + length_of clauses i) 16384))
    (and? (every? n (λ j. every? j (λ i. dec_le (start_of clauses i) (start_of clauses j))))
    (every? n (λ j. every? j (λ i. if? (dec_lt 0 (length_of clauses i)) (if? (dec_lt 0 (length_of clauses j)) (dec_le (start_of clauses i + length_of clauses i) (start_of clauses j))))))))))

unfoldable pub literals? : (v : ℕ) (literals variables : List ℤ) (settled : Bool) (start len : ℕ) → Dec (Literals v literals variables settled start len)
literals? v literals variables settled start len =
    so?
    (λ h. record { ranged = h.0; once = h.1.0; own = h.1.1 })
    (λ (L : Literals v literals variables settled start len). (L.ranged, (L.once, L.own)))
    (and? (every? len (λ k. literal? v (get_or literals (start + k) (pos 0))))
    (and? (every? len (λ k. every? k (λ j. not? (ℕ_discrete (variable_at literals (start + j)) (variable_at literals (start + k))))))
    (if? (eqᵇ? settled true) (every? len (λ k. eqℤ? (class_of variables (variable_at literals (start + k))) (pos (variable_at literals (start + k))))))))

unfoldable pub variable? : (variables : List ℤ) (w : ℕ) → Dec (Variable variables w)
variable? variables w =
    so?
    (λ h. record { class = h.0; own = h.1.0; value = h.1.1 })
    (λ (X : Variable variables w). (X.class, (X.own, X.value)))
    (and? (literal? w (class_of variables w))
    (and? (eqℤ? (class_of variables (nat_abs (class_of variables w))) (pos (nat_abs (class_of variables w))))
    (dec_le (nat_abs (value_of variables w)) 1)))

unfoldable pub spread? : (v : ℕ) (variables : List ℤ) → Dec (Spread v variables)
spread? v variables = every? v (λ w. eqℤ? (value_of variables (w + 1)) (class_value variables (w + 1)))

unfoldable pub cursor? : (p : Pass) (n : ℕ) (mark : Bool) → Dec (Cursor p n mark)
cursor? Idle n mark = yes tt
cursor? (Propagate cursor changed) n mark = and? (dec_lt cursor n) (eqᵇ? mark false)
cursor? (Merge cursor) n mark = and? (dec_lt cursor n) (eqᵇ? mark false)
cursor? (Sweep cursor) n mark = and? (dec_lt cursor n) (eqᵇ? mark false)

unfoldable pub clauses? : (v n settled : ℕ) (mark : Bool) (clauses : List ℕ) (literals variables : List ℤ) → Dec (Clauses v n settled mark clauses literals variables)
clauses? v n settled mark clauses literals variables =
    so?
    (λ h. record { parts = h.0; each = h.1.0; empty = h.1.1 })
    (λ (C : Clauses v n settled mark clauses literals variables). (C.parts, (C.each, C.empty)))
    (and? (parts? n clauses)
    (and? (every? n (λ i. literals? v literals variables (ltb i settled) (start_of clauses i) (length_of clauses i)))
    (every? n (λ i. if? (ℕ_discrete (standing clauses i) 1) (if? (ℕ_discrete (length_of clauses i) 0) (eqᵇ? mark true))))))

unfoldable pub shape? : (t : Tables) (st : State) → Dec (Shape t st)
shape? t st =
    so?
    (λ h. record { long = h.0; v_limit = h.1.0; n_limit = h.1.1.0; clauses = h.1.1.1.0; variables = h.1.1.1.1.0; values = h.1.1.1.1.1.0; cursor = h.1.1.1.1.1.1.0; stamps = h.1.1.1.1.1.1.1.0; programme = h.1.1.1.1.1.1.1.1 })
    (λ (S : Shape t st). (S.long, (S.v_limit, (S.n_limit, (S.clauses, (S.variables, (S.values, (S.cursor, (S.stamps, S.programme)))))))))
    (and? (long? t)
    (and? (dec_le st.v 1024)
    (and? (dec_le st.n 4096)
    (and? (clauses? st.v st.n (settled_to st.pass st.n) st.mark t.clauses t.literals t.variables)
    (and? (every? st.v (λ w. variable? t.variables (w + 1)))
    (and? (spread? st.v t.variables)
    (and? (cursor? st.pass st.n st.mark)
    (and? (if? (eqᵇ? st.fresh true) (fresh? st.v t.times t.links))
    (passing? st.programme)))))))))

-- refusal 1 is given exactly where this is false
unfoldable pub shape_ok : Tables → State → Bool
shape_ok t st = does (shape? t st)

pub shape_exact : (t : Tables) (st : State) → Decides (shape_ok t st) (Shape t st)
unfolding shape_ok
shape_exact t st = does_exact (shape? t st)

-- whoever decides the rule answers `shape_ok`
pub shape_agrees : (t : Tables) (st : State) {b : Bool} → Decides b (Shape t st) → b ≡ shape_ok t st
unfolding shape_ok
shape_agrees t st h = agrees h (shape? t st)
