-- What a call that is not refused knows, and where it is not. Assumes nothing.
use Prim.Native.Nat.{ℕ}
use native.Mathlib.Omega.{arith}
use mathlib.Core.Path.{◌≡◌, refl, sym, ◌∙◌}
use mathlib.Core.Bool.{Bool, true, false}
use Rattle.std.specs.Prelude.{Result, Ok, Err}
use Rattle.state.specs.declared.State.{State}
use Rattle.state.specs.declared.Pass.{Pass}
use Rattle.state.specs.declared.Pass.TheVariants.{Idle, Propagate, Merge, Sweep}
use Rattle.state.specs.declared.Refusal.{Refusal}
use Rattle.state.specs.declared.Refusal.TheVariants.{Shape}
use Rattle.tables.specs.Tables.{Tables}
use Rattle.shape.specs.Shape as S
use Rattle.shape.specs.Decision.{shape_ok}
use Rattle.shape.proofs.Reading.{shaped}
use Rattle.entry.specs.Entry.{entry_by, entry_of, opening_by, opening_of}
use Rattle.entry.specs.declared.PassName.{PassName}
use Rattle.entry.specs.declared.PassName.TheVariants as own
use Rattle.entry.specs.declared.Entry.{Entry}
use Rattle.entry.specs.declared.Entry.TheVariants.{Opens, Resumes}

-- ---- by the shape rule

pub entry_misshapen : (own : PassName) (t : Tables) (st : State) → shape_ok t st ≡ false → entry_of own t st ≡ Err Shape
unfolding entry_of
entry_misshapen own t st e = rw (e, entry_of)

pub entry_shaped : (own : PassName) (t : Tables) (st : State) → shape_ok t st ≡ true → entry_of own t st ≡ entry_by own st.pass st.mark
unfolding entry_of
entry_shaped own t st e = rw (e, entry_of)

pub opening_misshapen : (t : Tables) (st : State) → shape_ok t st ≡ false → opening_of t st ≡ Err Shape
unfolding opening_of
opening_misshapen t st e = rw (e, opening_of)

pub opening_shaped : (t : Tables) (st : State) → shape_ok t st ≡ true → opening_of t st ≡ opening_by st.pass st.mark
unfolding opening_of
opening_shaped t st e = rw (e, opening_of)

-- ---- with no pass open and the mark off

module _ (t : Tables) (st : State) (right : shape_ok t st ≡ true) (idle : st.pass ≡ Idle) (unmarked : st.mark ≡ false) where
  pub entry_idle : (own : PassName) → entry_of own t st ≡ Ok Opens
  entry_idle own = entry_shaped own t st right ∙ (λ i. entry_by own (idle i) (unmarked i))

  pub opening_idle : opening_of t st ≡ Ok tt
  opening_idle = opening_shaped t st right ∙ (λ i. opening_by (idle i) (unmarked i))

-- ---- what a call that is not refused knows

-- the shape rule holds, the pass is the one given, and the mark is off
pub record Entered (p : Pass) (t : Tables) (st : State) : Type 0 where
  pub shape : S.Shape t st
  pub pass : st.pass ≡ p
  pub unmarked : st.mark ≡ false

-- the named pass at a cursor
abbrev pub pass_at : PassName → ℕ → Bool → Pass
pass_at own.Propagate k changed = Propagate k changed
pass_at own.Merge k changed = Merge k
pass_at own.Sweep k changed = Sweep k

-- what an entry says of the pass and the mark
abbrev Told : PassName → Result Entry Refusal → Pass → Bool → Type 0
Told own (Err r) p mark = Unit
Told own (Ok Opens) p mark = (p ≡ Idle) × (mark ≡ false)
Told own (Ok (Resumes k changed)) p mark = (p ≡ pass_at own k changed) × (mark ≡ false)

entry_told : (own : PassName) (p : Pass) (mark : Bool) → Told own (entry_by own p mark) p mark
entry_told own Idle true = tt
entry_told own Idle false = (refl, refl)
entry_told own.Propagate (Propagate k changed) true = tt
entry_told own.Propagate (Propagate k changed) false = (refl, refl)
entry_told own.Propagate (Merge k) mark = tt
entry_told own.Propagate (Sweep k) mark = tt
entry_told own.Merge (Propagate k changed) mark = tt
entry_told own.Merge (Merge k) true = tt
entry_told own.Merge (Merge k) false = (refl, refl)
entry_told own.Merge (Sweep k) mark = tt
entry_told own.Sweep (Propagate k changed) mark = tt
entry_told own.Sweep (Merge k) mark = tt
entry_told own.Sweep (Sweep k) true = tt
entry_told own.Sweep (Sweep k) false = (refl, refl)

module _ (own : PassName) (t : Tables) (st : State) where
  told : (x : Result Entry Refusal) → entry_of own t st ≡ x → ((r : Refusal) → x ≡ Err r → ⊥) → (shape_ok t st ≡ true) × Told own x st.pass st.mark
  unfolding entry_of
  told x e d = go (shape_ok t st) refl e
    where
      go : (b : Bool) → shape_ok t st ≡ b → elim b as (λ y. Result Entry Refusal) [ true ↦ entry_by own st.pass st.mark | false ↦ Err Shape ] ≡ x → (shape_ok t st ≡ true) × Told own x st.pass st.mark
      go true h e = (h, rw e at (entry_told own st.pass st.mark))
      go false h e = absurd (d Shape (sym e))

  pub opens_entered : entry_of own t st ≡ Ok Opens → Entered Idle t st
  opens_entered e =
      let s = told (Ok Opens) e (λ r q. let z : ◌≡◌ {A = ℕ} 0 1 = cc in omega arith) in
      record { shape = shaped t st s.0; pass = s.1.0; unmarked = s.1.1 }

  pub resumes_entered : (k : ℕ) (changed : Bool) → entry_of own t st ≡ Ok (Resumes k changed) → Entered (pass_at own k changed) t st
  resumes_entered k changed e =
      let s = told (Ok (Resumes k changed)) e (λ r q. let z : ◌≡◌ {A = ℕ} 0 1 = cc in omega arith) in
      record { shape = shaped t st s.0; pass = s.1.0; unmarked = s.1.1 }

granted_told : (p : Pass) (mark : Bool) → opening_by p mark ≡ Ok tt → (p ≡ Idle) × (mark ≡ false)
granted_told Idle true e = absurd (let z : ◌≡◌ {A = ℕ} 0 1 = cc in omega arith)
granted_told Idle false e = (refl, refl)
granted_told (Propagate k changed) mark e = absurd (let z : ◌≡◌ {A = ℕ} 0 1 = cc in omega arith)
granted_told (Merge k) mark e = absurd (let z : ◌≡◌ {A = ℕ} 0 1 = cc in omega arith)
granted_told (Sweep k) mark e = absurd (let z : ◌≡◌ {A = ℕ} 0 1 = cc in omega arith)

pub granted_entered : (t : Tables) (st : State) → opening_of t st ≡ Ok tt → Entered Idle t st
unfolding opening_of
granted_entered t st e = go (shape_ok t st) refl e
  where
    go : (b : Bool) → shape_ok t st ≡ b → elim b as (λ y. Result (Unit {0}) Refusal) [ true ↦ opening_by st.pass st.mark | false ↦ Err Shape ] ≡ Ok tt → Entered Idle t st
    go true h e = let s = granted_told st.pass st.mark e in record { shape = shaped t st h; pass = s.0; unmarked = s.1 }
    go false h e = absurd (let z : ◌≡◌ {A = ℕ} 0 1 = cc in omega arith)
