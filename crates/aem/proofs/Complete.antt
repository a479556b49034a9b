-- An accepted program that is asked for is answered.
use Rattle.std.proofs.Common.{◌≡◌, ◌⊎◌, inl, inr, ℕ, ◌+◌, ◌≤◌, List, ◌++◌, Option, None, Some, Result, Ok}
use Rattle.std.proofs.Common.{refl, ap, ◌∙◌, subst, arith, length, length-append, append-nil}
use Rattle.std.specs.Io.KnownBytes.{Consumes, IsAtEnd}
use Rattle.ae_text.specs.declared.refusal.Spot.{Spot}
use Rattle.ae_text.specs.declared.refusal.Rule.{Rule}
use Rattle.ae_text.specs.declared.refusal.Refusal.{Refusal}
use Rattle.ae_text.specs.Whole.{most}
use Rattle.ae_tree.specs.Plain.{Code}
use Rattle.aem.specs.declared.answer.What.{What}
use Rattle.aem.specs.declared.answer.What.TheVariants as w
use Rattle.aem.specs.declared.answer.Command.{Command}
use Rattle.aem.specs.declared.answer.UsageKind.{UsageKind}
use Rattle.aem.specs.Words.{command_of}
use Rattle.aem.specs.Small.{IsSource}
use Rattle.aem.specs.Top.{IsWholeText, IsFirstBroken, Long, Whole, IsDoneFor, IsDoneForSource, IsDone, ByCommand, Caused}
use Rattle.aem.specs.Top.{IsAnswered}
use Rattle.aem.proofs.OneAnswer.{Laws, IsAccepted, one_source, refused_alone}

-- where nothing of known bytes is left, all were taken
all_were_taken : (text taken : List ℕ) (left : Option (List ℕ)) → Consumes (Some text) left taken → IsAtEnd left
    → text ≡ taken
all_were_taken text taken None c e = absurd c
all_were_taken text taken (Some ys) c e = c ∙ ap (λ l. taken ++ l) e ∙ append-nil taken

-- no more than the known bytes were taken
no_more_taken : (text taken : List ℕ) (left : Option (List ℕ)) → Consumes (Some text) left taken
    → length taken ≤ length text
no_more_taken text taken None c = absurd c
no_more_taken text taken (Some ys) c = omega (arith, ap length c ∙ length-append taken ys)

-- a rule that is broken first: the text was read to its end, or is too long
whole_or_long : (command : Command) (rule : Rule) (at : Spot) (taken : List ℕ) (left : Option (List ℕ))
    → IsFirstBroken command rule at taken left → IsWholeText taken left ⊎ (length taken ≡ most + 1)
whole_or_long command rule at taken left (Long r e l) = inr l
whole_or_long command rule at taken left (Whole t b) = inl t

-- the text of an accepted program is not refused
never_refused : Laws → (command : Command) (text taken : List ℕ) (left : Option (List ℕ)) (r : Refusal) (p : Code)
    → Consumes (Some text) left taken → length text ≤ most → IsAccepted command text p →
    IsFirstBroken command r.rule r.at taken left → ⊥
never_refused laws command text taken left r p c short a b =
    elim (whole_or_long command r.rule r.at taken left b) as (λ _. ⊥) [
      | inl whole ↦ refused_alone laws command taken left r p b whole
          (subst (λ (l : List ℕ). IsAccepted command l p) (all_were_taken text taken left c whole.1) a)
      | inr long ↦ omega (arith, long, short, no_more_taken text taken left c)
    ]

-- what is done for a source is done for its program
done_for_one : Laws → (command : Command) (text taken : List ℕ) (left : Option (List ℕ)) (p : Code) (what : What)
    → Consumes (Some text) left taken → IsWholeText taken left → IsSource text p → IsDoneForSource command taken what
    → IsDoneFor command p what
done_for_one laws command text taken left p what c t a (q, s, _, _, done) =
    let b : IsSource taken p = subst (λ (l : List ℕ). IsSource l p) (all_were_taken text taken left c t.1) a in
    subst (λ k. IsDoneFor command k what) (one_source laws taken p q b s) done

-- what is done for a text is done for its program
done_for_program : Laws → (command : Command) (text taken : List ℕ) (left : Option (List ℕ)) (p : Code) (what : What)
    → Consumes (Some text) left taken → length text ≤ most →
    IsAccepted command text p → (what ≡ w.ReadFault → ⊥) → IsDone command taken left what → IsDoneFor command p what
done_for_program laws command text taken left p (w.Usage kind) c short a n d = absurd d
done_for_program laws command text taken left p w.ReadFault c short a n d = absurd (n refl)
done_for_program laws command text taken left p (w.Refused r) c short a n d =
    absurd (never_refused laws command text taken left r p c short a d)
done_for_program laws command text taken left p w.Checked c short a n (t, d)
    = done_for_one laws command text taken left p w.Checked c t a.0 d
done_for_program laws command text taken left p (w.Graph graph) c short a n (t, d) =
    done_for_one laws command text taken left p (w.Graph graph) c t a.0 d
done_for_program laws command text taken left p (w.Ran report) c short a n (t, d) =
    done_for_one laws command text taken left p (w.Ran report) c t a.0 d
done_for_program laws command text taken left p w.Memory c short a n d = tt

-- an answer with a cause is done for the command that the words ask for
done_as_asked : (words : List (List ℕ)) (command : Command) (taken : List ℕ) (left : Option (List ℕ)) (what : What)
    → command_of words ≡ Ok command → Caused words taken left what →
    IsDone command taken left what
done_as_asked words command taken left w.Memory e c = tt
done_as_asked words command taken left (w.Usage kind) e c = let P : Result Command UsageKind → Type 0 =
    λ r. ByCommand r taken left (w.Usage kind) in subst P e c
done_as_asked words command taken left w.ReadFault e c = let P : Result Command UsageKind → Type 0 =
    λ r. ByCommand r taken left w.ReadFault in subst P e c
done_as_asked words command taken left (w.Refused x) e c = let P : Result Command UsageKind → Type 0 =
    λ r. ByCommand r taken left (w.Refused x) in subst P e c
done_as_asked words command taken left w.Checked e c = let P : Result Command UsageKind → Type 0 =
    λ r. ByCommand r taken left w.Checked in subst P e c
done_as_asked words command taken left (w.Graph x) e c = let P : Result Command UsageKind → Type 0 =
    λ r. ByCommand r taken left (w.Graph x) in subst P e c
done_as_asked words command taken left (w.Ran x) e c = let P : Result Command UsageKind → Type 0 =
    λ r. ByCommand r taken left (w.Ran x) in subst P e c

-- by the laws, an accepted program that is asked for is answered
pub accepted_is_answered : Laws → IsAnswered
accepted_is_answered laws words before after what command program asked (taken, consumed, caused) not_fault
    = done_for_program laws command asked.text taken after program what
    (subst (λ (o : Option (List ℕ)). Consumes o after taken) asked.has consumed) asked.short
    (asked.source, asked.built, asked.accepted) not_fault
    (done_as_asked words command taken after what asked.asked caused)
