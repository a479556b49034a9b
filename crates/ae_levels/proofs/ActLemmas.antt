-- Statements without blocks and calls, as steps.
use Rattle.std.proofs.Common.{◌≡◌, refl, ap, sym, ◌∙◌, ℕ, true, List, [], ◌∷◌, ◌++◌, Option}
use Rattle.std.proofs.Common.{None, Some}
use Rattle.std.proofs.lemmas.List.{append-nil, append_assoc}
use mathlib.Core.Path.{fun_ext}
use Rattle.ae_text.specs.declared.refusal.Spot.{Spot}
use Rattle.ae_tree.specs.declared.form.Form.{Form}
use Rattle.ae_tree.specs.Plain.{Value, Taken, Zeros, Made, Returned, Definition, Code}
use Rattle.ae_tree.specs.Plain.{Action, Declares, Assigns, Stores, StoresAt, Calls, Chooses, ChoosesElse, Repeats}
use Rattle.ae_tree.specs.Plain.{Groups, Splits, Locks, Freezes, Shares, Prints, PrintsText, Asserts, Returns}
use Rattle.ae_rules.specs.Context.{Context}
use Rattle.ae_semantics.specs.Places.{Outcome, Fine, State}
use Rattle.ae_semantics.specs.declared.report.Ending.TheVariants.{Trap}
use Rattle.ae_semantics.specs.declared.report.Piece.{Piece}
use Rattle.ae_semantics.specs.Observations.{Seen}
use Rattle.ae_semantics.specs.Runs.{Run, Where}
use Rattle.ae_semantics.specs.Meaning.{below}
use Rattle.ae_semantics.specs.Means.{in_order, source_machine, pieces_bytes}
use Rattle.ae_semantics.specs.Gathering.{doing}
use Rattle.ae_semantics.specs.Stacks.{TheStatement}
use Rattle.ae_values.specs.declared.env.Bind.{Bind}
use Rattle.ae_names.specs.Known.{AreKnown, form_in, names_declared}
use Rattle.ae_steps.specs.Steps.{done_by, statement_left, resumed}
use Rattle.ae_reads.specs.declared.stop.Stop.{Stop}
use Rattle.ae_reads.specs.declared.stop.Stop.TheVariants as stop
use Rattle.ae_reads.specs.Answers.{FaultsAs}
use Rattle.ae_acts.specs.Acts.{Acted, acted, is_flat}
use Rattle.ae_acts.specs.Doing.{bytes_of}
use Rattle.ae_acts.specs.Law.{acted_run, printed_at, form_in_context}
use Rattle.ae_levels.specs.Laws.{Laws}
use Rattle.ae_levels.specs.Levels.{NamesInOrder, Level}
use Rattle.ae_levels.specs.Going.{Going, Begun}
use Rattle.ae_levels.specs.Halting.{halt_at, HaltsAs}
use Rattle.ae_levels.proofs.MoveLemmas.{SourceNotes, comes_to, comes_to_none}

-- what a statement without blocks and calls leaves is done at once
flat_left : (p : Code) (fuel : ℕ) (here : Where) (at : Spot) (a : Action) (s : State) (n : SourceNotes)
    → is_flat a ≡ true
    → statement_left (source_machine p) fuel here at a s n ≡ done_by (doing (source_machine p) fuel here at a s n)
flat_left p fuel here at (Declares t x (Value e)) s n h = refl
flat_left p fuel here at (Declares t x (Taken path k)) s n h = refl
flat_left p fuel here at (Declares t x (Zeros e k)) s n h = refl
flat_left p fuel here at (Declares t x (Made c gs args k)) s n h = refl
flat_left p fuel here at (Declares t x (Returned i)) s n h = absurd (cc h)
flat_left p fuel here at (Assigns x (Value e)) s n h = refl
flat_left p fuel here at (Assigns x (Taken path k)) s n h = refl
flat_left p fuel here at (Assigns x (Zeros e k)) s n h = refl
flat_left p fuel here at (Assigns x (Made c gs args k)) s n h = refl
flat_left p fuel here at (Assigns x (Returned i)) s n h = absurd (cc h)
flat_left p fuel here at (Stores path e) s n h = refl
flat_left p fuel here at (StoresAt path i e) s n h = refl
flat_left p fuel here at (Calls i) s n h = absurd (cc h)
flat_left p fuel here at (Chooses e i b) s n h = absurd (cc h)
flat_left p fuel here at (ChoosesElse e i b j c) s n h = absurd (cc h)
flat_left p fuel here at (Repeats e i b) s n h = absurd (cc h)
flat_left p fuel here at (Groups g) s n h = refl
flat_left p fuel here at (Splits gs i b) s n h = absurd (cc h)
flat_left p fuel here at (Locks g i b) s n h = absurd (cc h)
flat_left p fuel here at (Freezes x) s n h = refl
flat_left p fuel here at (Shares x g) s n h = refl
flat_left p fuel here at (Prints e) s n h = refl
flat_left p fuel here at (PrintsText text) s n h = refl
flat_left p fuel here at (Asserts e) s n h = refl
flat_left p fuel here at (Returns e) s n h = refl

-- the forms that are known are those of the names
forms_known : (c : Context) (names : NamesInOrder) → AreKnown c names → form_in_context c ≡ form_in names
forms_known c names k = fun_ext (λ x. sym (k.local x))

-- what comes to this after a statement that begins
act_comes : Laws → (p : Code) (whole : Run (List Seen)) (names : NamesInOrder) (waiting : List Bind) (s : State) (out : List ℕ)
    (fuel depth : ℕ) (m : Definition) (at : Spot) (a : Action) (ls : List Level)
    (g : Begun p whole names waiting s out fuel depth m at a ls) → is_flat a ≡ true
    → whole ≡ resumed (source_machine p) g.stack
    (done_by (acted_run at g.here.path g.notes (acted p m (form_in names) a s)))
act_comes law p whole names waiting s out fuel depth m at a ls g h =
    g.comes ∙ law.steps p in_order (TheStatement fuel g.here at a) g.stack s g.notes
    ∙ ap (resumed (source_machine p) g.stack) (flat_left p fuel g.here at a s g.notes h)
    ∙ ap (λ (r : Run (List Seen)). resumed (source_machine p) g.stack (done_by r))
    (law.acts (source_machine p) (below (source_machine p) fuel) g.here at a s g.notes h
    ∙ ap (λ (d : Definition). acted_run at g.here.path g.notes (acted p d (form_in_context g.here.context) a s)) g.method
    ∙ ap (λ (forms : ℕ → Option Form). acted_run at g.here.path g.notes (acted p m forms a s))
    (forms_known g.here.context names g.known_here))

-- ---- what is printed

piece_behind : (xs : List Piece) (x : Piece) → pieces_bytes (xs ++ (x ∷ [])) ≡ pieces_bytes xs ++ x.bytes
piece_behind [] x = append-nil x.bytes
piece_behind (y ∷ xs) x = ap (λ (bs : List ℕ). y.bytes ++ bs) (piece_behind xs x)
    ∙ sym (append_assoc y.bytes (pieces_bytes xs) x.bytes)

printed_behind : (path : List ℕ) (printed : Option (List ℕ)) (n : SourceNotes) (out : List ℕ)
    → pieces_bytes n.log ≡ out → pieces_bytes (printed_at path printed n).log ≡ out ++ bytes_of printed
printed_behind path None n out h = h ∙ sym (append-nil out)
printed_behind path (Some bytes) n out h = piece_behind n.log (record { path = path; bytes = bytes })
    ∙ ap (λ (bs : List ℕ). bs ++ bytes) h

-- ---- the two ways that it goes

-- A statement without blocks and calls goes on to the state that it leaves.
pub act_goes_on : Laws → (p : Code) (whole : Run (List Seen)) (names : NamesInOrder) (waiting : List Bind) (s t : State)
    (out : List ℕ) (fuel depth : ℕ) (m : Definition) (at : Spot) (a : Action) (ls : List Level)
    (printed : Option (List ℕ)) → Begun p whole names waiting s out fuel depth m at a ls → is_flat a ≡ true
    → acted p m (form_in names) a s ≡ Fine (record { state = t; printed = printed })
    → Going p whole (names ++ names_declared a) waiting t (out ++ bytes_of printed) ls
act_goes_on law p whole names waiting s t out fuel depth m at a ls printed g h e = record {
  stack = g.stack;
  notes = printed_at g.here.path printed g.notes;
  stands = g.stands;
  comes = act_comes law p whole names waiting s out fuel depth m at a ls g h
      ∙ ap (λ (o : Outcome Acted). resumed (source_machine p) g.stack (done_by (acted_run at g.here.path g.notes o))) e;
  printed = printed_behind g.here.path printed g.notes out g.printed;
}

-- A fault of a statement without blocks and calls is the end.
pub act_faults : Laws → (p : Code) (whole : Run (List Seen)) (names : NamesInOrder) (waiting : List Bind) (s : State)
    (out : List ℕ) (fuel depth : ℕ) (m : Definition) (at : Spot) (a : Action) (ls : List Level) (e : Stop)
    → Begun p whole names waiting s out fuel depth m at a ls → is_flat a ≡ true
    → FaultsAs (acted p m (form_in names) a s) e → HaltsAs whole out (halt_at at e)
act_faults law p whole names waiting s out fuel depth m at a ls (stop.Trap code) g h f =
    comes_to whole (Trap code at) g.notes out (act_comes law p whole names waiting s out fuel depth m at a ls g h
    ∙ ap (λ (o : Outcome Acted). resumed (source_machine p) g.stack (done_by (acted_run at g.here.path g.notes o))) f)
    g.printed
act_faults law p whole names waiting s out fuel depth m at a ls stop.Lack g h f =
    comes_to_none whole g.notes out (act_comes law p whole names waiting s out fuel depth m at a ls g h
    ∙ ap (λ (o : Outcome Acted). resumed (source_machine p) g.stack (done_by (acted_run at g.here.path g.notes o))) f)
    g.printed
act_faults law p whole names waiting s out fuel depth m at a ls stop.Memory g h f = tt
