-- What a statement without blocks and calls comes to is what it does in the meaning.
use Rattle.std.specs.Prelude.{◌≡◌, ℕ, true, List, [], ◌∷◌, Option, None, Some, option_map, ⊤}
use Rattle.ae_text.specs.declared.refusal.Spot.{Spot}
use Rattle.ae_tree.specs.declared.form.Form.{Form}
use Rattle.ae_tree.specs.Plain.{Action}
use Rattle.ae_rules.specs.Instances.{Instance}
use Rattle.ae_rules.specs.Context.{Local, Context}
use Rattle.ae_semantics.specs.Places.{Outcome, State}
use Rattle.ae_semantics.specs.Observations.{Seen, Notes}
use Rattle.ae_semantics.specs.Runs.{Run, Went, outcome_given, logged, Where, Machine, Below}
use Rattle.ae_semantics.specs.Meaning.{one}
use Rattle.ae_acts.specs.Acts.{Acted, acted, is_flat}

-- the forms of the locals that are visible
abbrev pub form_in_context : Context → ℕ → Option Form
form_in_context c x = option_map (λ (l : Local). l.form) (c.local x)

-- what was printed at this statement stands in the log, as one piece
abbrev pub printed_at : {W : Type 0} → Instance → Option (List ℕ) → Notes W → Notes W
printed_at path None n = n
printed_at path (Some bytes) n = logged (record { path = path; bytes = bytes } ∷ []) n

-- the run to which a statement comes that stands here
abbrev pub acted_run : {W : Type 0} → Spot → Instance → Notes W → Outcome Acted → Run W
acted_run at path n o = outcome_given o at n (λ (x : Acted). Went x.state (printed_at path x.printed n))

-- Each statement without blocks and calls does in the meaning what it comes to.
abbrev pub ActsAreTheMeaning : Type 0 → Type 0
ActsAreTheMeaning W = (m : Machine W) (below : Option (Below W)) (here : Where) (at : Spot) (a : Action) (s : State)
    (n : Notes W) → is_flat a ≡ true
    → one m below here at a s n
    ≡ acted_run at here.path n (acted m.code here.method (form_in_context here.context) a s)

-- so it is with notes of nothing more, and with those that list what was answered
abbrev pub ActsAreTheMeaningOfBoth : Type 0
ActsAreTheMeaningOfBoth = ActsAreTheMeaning ⊤ × ActsAreTheMeaning (List Seen)
