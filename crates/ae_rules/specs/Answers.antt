-- What a function that judges answers, against the verdict that it decides.
use Rattle.std.specs.Prelude.{◌≡◌, Result, Ok, Err, ⊤}
use Rattle.ae_text.specs.declared.refusal.Deny.{Deny}
use Rattle.ae_text.specs.declared.refusal.Deny.TheVariants as deny
use Rattle.ae_rules.specs.Verdict.{Verdict, Holds, Broken}

-- The answer is the verdict: it shows the value, or is refused by the same rule at the same place. Of want of memory nothing is said.
abbrev pub Answers : {A B : Type 0} → Verdict A → (B → A) → Result B Deny → Type 0
Answers v view (Ok b) = v ≡ Holds (view b)
Answers v view (Err (deny.Refused r)) = v ≡ Broken r.rule r.at
Answers v view (Err deny.Memory) = Unit {0}

-- an answer that shows nothing
abbrev pub done : Unit {0} → ⊤
done _ = tt

-- The same of a function that changes a state: what the verdict comes to is what the state shows then.
abbrev pub Leaves : {A : Type 0} → Verdict A → A → Result (Unit {0}) Deny → Type 0
Leaves v x (Ok _) = v ≡ Holds x
Leaves v x (Err (deny.Refused r)) = v ≡ Broken r.rule r.at
Leaves v x (Err deny.Memory) = Unit {0}
