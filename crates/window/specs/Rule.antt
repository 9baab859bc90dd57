-- The rule of the window. Document 02, CR 1: "a window handed in with another [literal total], over 64 clauses or one that 11 forbids gets 1"; 11 forbids "a learnt clause of more than 64 literals or with a literal that is 0, out of range or of a variable already in it".
-- It is a Type, so that it reads as the document does; `window?` decides it. Assumes nothing: these are definitions, with the decisions that they need.
use Rattle.std.specs.Prelude.{ℕ, ◌+◌, ◌*◌, ◌≤◌, ◌<◌, ◌≡◌, Bool, List, length, get_or, ℤ, pos}
use Rattle.std.proofs.Math.Decide.{ℕ_discrete, dec_le}
use Rattle.base.specs.Decide.{Decides, does, does_exact, agrees, and?, not?, so?, every?}
use Rattle.literal.specs.Literals.{Literal}
use Rattle.stamps.specs.Decision.{literal?}
use Rattle.tables.specs.Tables.{variable_at}
use Rattle.window.specs.Window.{Places, size_of, total_of}

-- a clause that 11 does not forbid: the len literals from a start
pub record Learnable (v : ℕ) (literals : List ℤ) (start len : ℕ) : Type 0 where
  pub few : len ≤ 64
  pub ranged : (k : ℕ) → k < len → Literal v (get_or literals (start + k) (pos 0))
  pub once : (k : ℕ) → k < len → (j : ℕ) → j < k → variable_at literals (start + j) ≡ variable_at literals (start + k) → ⊥

-- a newcomer, as it is handed in
abbrev pub Newcomer : ℕ → List ℤ → Type 0
Newcomer v C = Learnable v C 0 (length C)

-- "a table is shorter than stated (extra places stay)"
pub record LongWindow (w : Places) : Type 0 where
  pub sizes : 64 ≤ length w.sizes
  pub learnt : 4096 ≤ length w.learnt

-- the rule; places behind a clause's literals are not judged
pub record WindowRule (v : ℕ) (w : Places) : Type 0 where
  pub long : LongWindow w
  pub few : w.window.clauses ≤ 64
  pub each : (k : ℕ) → k < w.window.clauses → Learnable v w.learnt (64 * k) (size_of w.sizes k)
  pub total : w.window.literals ≡ total_of w.window.clauses w.sizes

-- ---- what the functions say to each other

-- the rule's half on clauses and their total, of a window of at most 64 clauses whose tables are long enough
pub record Clauses (v : ℕ) (w : Places) : Type 0 where
  pub each : (k : ℕ) → k < w.window.clauses → Learnable v w.learnt (64 * k) (size_of w.sizes k)
  pub total : w.window.literals ≡ total_of w.window.clauses w.sizes

-- a window that keeps the rule for some number of variables
pub record Ruled (w : Places) : Type 0 where
  pub vars : ℕ
  pub rule : WindowRule vars w

-- the eldest can leave
pub record Full (w : Places) : Type 0 where
  pub long : LongWindow w
  pub some : 1 ≤ w.window.clauses
  pub counted : size_of w.sizes 0 ≤ w.window.literals

-- a clause can go behind the others
pub record Room (w : Places) : Type 0 where
  pub long : LongWindow w
  pub some : w.window.clauses < 64
  pub few : w.window.literals ≤ 4096

-- ---- decisions

unfoldable pub learnable? : (v : ℕ) (literals : List ℤ) (start len : ℕ) → Dec (Learnable v literals start len)
learnable? v literals start len =
    so?
    (λ h. record { few = h.0; ranged = h.1.0; once = h.1.1 })
    (λ (L : Learnable v literals start len). (L.few, (L.ranged, L.once)))
    (and? (dec_le len 64)
    (and? (every? len (λ k. literal? v (get_or literals (start + k) (pos 0))))
    (every? len (λ k. every? k (λ j. not? (ℕ_discrete (variable_at literals (start + j)) (variable_at literals (start + k))))))))

unfoldable pub long_window? : (w : Places) → Dec (LongWindow w)
long_window? w = so? (λ h. record { sizes = h.0; learnt = h.1 }) (λ (L : LongWindow w). (L.sizes, L.learnt)) (and? (dec_le 64 (length w.sizes)) (dec_le 4096 (length w.learnt)))

unfoldable pub window? : (v : ℕ) (w : Places) → Dec (WindowRule v w)
window? v w =
    so?
    (λ h. record { long = h.0; few = h.1.0; each = h.1.1.0; total = h.1.1.1 })
    (λ (R : WindowRule v w). (R.long, (R.few, (R.each, R.total))))
    (and? (long_window? w)
    (and? (dec_le w.window.clauses 64)
    (and? (every? w.window.clauses (λ k. learnable? v w.learnt (64 * k) (size_of w.sizes k)))
    (ℕ_discrete w.window.literals (total_of w.window.clauses w.sizes)))))

-- the bools that calls branch on
unfoldable pub learnable_ok : ℕ → List ℤ → Bool
learnable_ok v C = does (learnable? v C 0 (length C))

unfoldable pub long_window_ok : Places → Bool
long_window_ok w = does (long_window? w)

unfoldable pub window_ok : ℕ → Places → Bool
window_ok v w = does (window? v w)

-- what they mean, and whoever decides the rules answers them
pub learnable_exact : (v : ℕ) (C : List ℤ) → Decides (learnable_ok v C) (Newcomer v C)
unfolding learnable_ok
learnable_exact v C = does_exact (learnable? v C 0 (length C))

pub learnable_agrees : (v : ℕ) (C : List ℤ) {b : Bool} → Decides b (Newcomer v C) → b ≡ learnable_ok v C
unfolding learnable_ok
learnable_agrees v C h = agrees h (learnable? v C 0 (length C))

pub long_exact : (w : Places) → Decides (long_window_ok w) (LongWindow w)
unfolding long_window_ok
long_exact w = does_exact (long_window? w)

pub long_agrees : (w : Places) {b : Bool} → Decides b (LongWindow w) → b ≡ long_window_ok w
unfolding long_window_ok
long_agrees w h = agrees h (long_window? w)

pub window_exact : (v : ℕ) (w : Places) → Decides (window_ok v w) (WindowRule v w)
unfolding window_ok
window_exact v w = does_exact (window? v w)

pub window_agrees : (v : ℕ) (w : Places) {b : Bool} → Decides b (WindowRule v w) → b ≡ window_ok v w
unfolding window_ok
window_agrees v w h = agrees h (window? v w)
