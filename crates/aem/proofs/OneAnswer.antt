-- Two causes of answers in one text agree.
use Rattle.std.proofs.Common.{◌≡◌, ◌⊎◌, inl, inr, ℕ, ◌+◌, ◌≤◌, List, [], Option, None, Some, IsSome, Result, Ok, Err}
use Rattle.std.proofs.Common.{refl, sym, ap, ◌∙◌, subst, arith, length}
use Rattle.std.proofs.lemmas.List.{append_cancel_right}
use Rattle.std.specs.Io.KnownBytes.{Consumes}
use Rattle.ae_text.specs.declared.refusal.Spot.{Spot}
use Rattle.ae_text.specs.declared.refusal.Rule.{Rule}
use Rattle.ae_text.specs.declared.refusal.Rule.TheVariants.{TooLong}
use Rattle.ae_text.specs.declared.refusal.Refusal.{Refusal}
use Rattle.ae_text.specs.declared.token.Token.{Token}
use Rattle.ae_text.specs.Tokens.{Lexes, LexFault, place, first_spot}
use Rattle.ae_text.specs.Whole.{most}
use Rattle.ae_tree.specs.Plain.{Code}
use Rattle.ae_tree.specs.Grammar.{Derives}
use Rattle.ae_tree.specs.Refused.{IsRefused}
use Rattle.ae_parser.specs.Laws.{IsOneRefusal, NoProgramIsRefused}
use Rattle.ae_parser.specs.Laws.{IsOneProgram}
use Rattle.ae_rules.specs.Judges.{Accepts}
use Rattle.ae_rules.specs.Laws.{NeverAcceptedAndBroken, FirstIsOne}
use Rattle.ae_semantics.specs.Means.{mean}
use Rattle.ae_semantics.specs.declared.report.Ending.{Ending}
use Rattle.ae_semantics.specs.declared.report.Ending.TheVariants.{Done}
use Rattle.aem.specs.declared.answer.Report.{Report}
use Rattle.aem.specs.declared.answer.What.{What}
use Rattle.aem.specs.declared.answer.What.TheVariants as w
use Rattle.aem.specs.declared.answer.Command.{Command}
use Rattle.aem.specs.declared.answer.UsageKind.{UsageKind}
use Rattle.aem.specs.Words.{command_of}
use Rattle.aem.specs.Small.{IsSource}
use Rattle.aem.specs.Top.{IsWholeText, IsFaultAt, IsTokenAt, IsOfMode, IsRejected, IsBroken, NoTokens, NoProgram}
use Rattle.aem.specs.Top.{Rejected, IsFirstBroken, Long, Whole, IsMeant}
use Rattle.aem.specs.Top.{IsDoneFor, IsDoneForSource, IsDone}
use Rattle.aem.specs.Top.{ByCommand, Caused, HasItsCause, IsTold, IsOneAnswer, IsOnlyAnswer}

-- what the layers below say of one text
pub record Laws : Type 0 where
  pub tokens : (text : List ℕ) (a b : List Token) → Lexes text a → Lexes text b → a ≡ b
  pub fault : (text : List ℕ) (r q : Rule) (m n : ℕ) → LexFault text r m → LexFault text q n → (r ≡ q) × (m ≡ n)
  pub no_tokens : (text : List ℕ) (r : Rule) (m : ℕ) (tokens : List Token) → LexFault text r m → Lexes text tokens → ⊥
  pub refusal : IsOneRefusal
  pub not_refused : NoProgramIsRefused
  pub program : IsOneProgram
  pub never_both : NeverAcceptedAndBroken
  pub first : FirstIsOne

-- a text is a source of one program
pub one_source : Laws → (text : List ℕ) (p q : Code) → IsSource text p → IsSource text q → q ≡ p
one_source laws text p q s z = laws.program s.tokens q p
    (subst (λ l. Derives l q) (laws.tokens text z.tokens s.tokens z.lexes s.lexes) z.derives) s.derives

-- a text with a fault is a source of nothing
fault_alone : Laws → (text : List ℕ) (rule : Rule) (at : Spot) (p : Code) → IsFaultAt rule at text → IsSource text p → ⊥
fault_alone laws text rule at p f s = laws.no_tokens text rule f.0 s.tokens f.1 s.lexes

-- no token of a source is refused
token_alone : Laws → (text : List ℕ) (rule : Rule) (at : Spot) (p : Code) → IsTokenAt rule at text → IsSource text p → ⊥
token_alone laws text rule at p t s =
    laws.not_refused s.tokens p rule at s.derives s.within
    (subst (λ (l : List Token). IsRefused l rule at) (laws.tokens text t.0 s.tokens t.1 s.lexes) t.2)

-- one rule at one place
abbrev Same : Rule → Spot → Rule → Spot → Type 0
Same r at s spot = (r ≡ s) × (at ≡ spot)

two_faults : Laws → (text : List ℕ) (r s : Rule) (at spot : Spot) → IsFaultAt r at text → IsFaultAt s spot text
    → Same r at s spot
two_faults laws text r s at spot a b = let same =
    laws.fault text r s a.0 b.0 a.1 b.1 in (same.0, a.2 ∙ ap (place text) same.1 ∙ sym b.2)

two_tokens : Laws → (text : List ℕ) (r s : Rule) (at spot : Spot) → IsTokenAt r at text → IsTokenAt s spot text
    → Same r at s spot
two_tokens laws text r s at spot a b =
    laws.refusal b.0 r s at spot (subst (λ (l : List Token). IsRefused l r at) (laws.tokens text a.0 b.0 a.1 b.1) a.2)
    b.2

same_program : Laws → (command : Command) (p : Code) (r s : Rule) (at spot : Spot) → IsRejected command r at p
    → IsRejected command s spot p → Same r at s spot
same_program laws command p r s at spot (inl a) (inl b) = (a.0 ∙ sym b.0, a.1 ∙ sym b.1)
same_program laws command p r s at spot (inl a) (inr b) = absurd (a.2 b.0)
same_program laws command p r s at spot (inr a) (inl b) = absurd (b.2 a.0)
same_program laws command p r s at spot (inr a) (inr b) = laws.first p r s at spot a.1.1 b.1.1

two_programs : Laws → (command : Command) (text : List ℕ) (r s : Rule) (at spot : Spot) (p q : Code) → IsSource text p
    → IsSource text q → IsRejected command r at p → IsRejected command s spot q → Same r at s spot
two_programs laws command text r s at spot p q a b x y
    = same_program laws command p r s at spot x (subst (IsRejected command s spot) (one_source laws text p q a b) y)

two_causes : Laws → (command : Command) (text : List ℕ) (r s : Rule) (at spot : Spot) → IsBroken command r at text
    → IsBroken command s spot text → Same r at s spot
two_causes laws command text r s at spot (NoTokens a) (NoTokens b) = two_faults laws text r s at spot a b
two_causes laws command text r s at spot (NoTokens a) (NoProgram b) = absurd (laws.no_tokens text r a.0 b.0 a.1 b.1)
two_causes laws command text r s at spot (NoTokens a) (Rejected q z y) = absurd (fault_alone laws text r at q a z)
two_causes laws command text r s at spot (NoProgram a) (NoTokens b) = absurd (laws.no_tokens text s b.0 a.0 b.1 a.1)
two_causes laws command text r s at spot (NoProgram a) (NoProgram b) = two_tokens laws text r s at spot a b
two_causes laws command text r s at spot (NoProgram a) (Rejected q z y) = absurd (token_alone laws text r at q a z)
two_causes laws command text r s at spot (Rejected p z x) (NoTokens b) = absurd (fault_alone laws text s spot p b z)
two_causes laws command text r s at spot (Rejected p z x) (NoProgram b) = absurd (token_alone laws text s spot p b z)
two_causes laws command text r s at spot (Rejected p a x) (Rejected q b y)
    = two_programs laws command text r s at spot p q a b x y

-- a program of the mode's forms that the rules accept breaks none
program_unbroken : Laws → (command : Command) (p : Code) (r : Rule) (at : Spot) → IsOfMode command p → Accepts p
    → IsRejected command r at p → ⊥
program_unbroken laws command p r at built a (inl b) = b.2 built
program_unbroken laws command p r at built a (inr b) = laws.never_both p r at a b.1.1

-- the text of an accepted program has no cause of a refusal
uncaused : Laws → (command : Command) (text : List ℕ) (p : Code) (r : Rule) (at : Spot) → IsSource text p
    → IsOfMode command p → Accepts p → IsBroken command r at text → ⊥
uncaused laws command text p r at s built a (NoTokens f) = fault_alone laws text r at p f s
uncaused laws command text p r at s built a (NoProgram t) = token_alone laws text r at p t s
uncaused laws command text p r at s built a (Rejected q z b) = program_unbroken laws command p r at built a
    (subst (IsRejected command r at) (one_source laws text p q s z) b)

-- a rule that a text breaks first: the text is too long, or was read to its end and is broken
abbrev IsLongOrBroken : Command → Rule → Spot → List ℕ → Type 0
IsLongOrBroken command rule at text = ((rule ≡ TooLong) × (at ≡ first_spot) × (length text ≡ most + 1))
    ⊎ ((length text ≤ most) × IsBroken command rule at text)

long_or_broken : (command : Command) (rule : Rule) (at : Spot) (taken : List ℕ) (left : Option (List ℕ))
    → IsFirstBroken command rule at taken left → IsLongOrBroken command rule at taken
long_or_broken command rule at taken left (Long r e l) = inl (r, e, l)
long_or_broken command rule at taken left (Whole t b) = inr (t.0, b)

not_long : (text : List ℕ) → length text ≡ most + 1 → length text ≤ most → ⊥
not_long text long short = omega (arith, long, short)

two_broken : Laws → (command : Command) (text : List ℕ) (r s : Rule) (at spot : Spot)
    → IsLongOrBroken command r at text → IsLongOrBroken command s spot text → Same r at s spot
two_broken laws command text r s at spot (inl a) (inl b) = (a.0 ∙ sym b.0, a.1 ∙ sym b.1)
two_broken laws command text r s at spot (inl a) (inr b) = absurd (not_long text a.2 b.0)
two_broken laws command text r s at spot (inr a) (inl b) = absurd (not_long text b.2 a.0)
two_broken laws command text r s at spot (inr a) (inr b) = two_causes laws command text r s at spot a.1 b.1

unbroken : Laws → (command : Command) (text : List ℕ) (p : Code) (r : Rule) (at : Spot) → IsSource text p
    → IsOfMode command p → Accepts p → length text ≤ most → IsLongOrBroken command r at text → ⊥
unbroken laws command text p r at s built a short (inl b) = not_long text b.2 short
unbroken laws command text p r at s built a short (inr b) = uncaused laws command text p r at s built a b.1

-- ---- reports

-- the ending that is there
abbrev ending_or : Option Ending → Ending
ending_or (Some x) = x
ending_or None = Done

-- a meaning has one ending
same_ending : (x y : Ending) (o : Option Ending) → o ≡ Some x → o ≡ Some y → x ≡ y
same_ending x y o a b = ap ending_or (sym a ∙ b)

abbrev report : Ending → List ℕ → Report
report ending out = record { ending = ending; out = out }

same_report : (x y : Report) → x.ending ≡ y.ending → x.out ≡ y.out → x ≡ y
same_report x y a b = ap (λ z. report z x.out) a ∙ ap (report y.ending) b

-- two reports of one meaning are one
two_reports : (x y : Report) (p : Code) → IsMeant x p → IsMeant y p → x ≡ y
two_reports x y p a b =
    same_report x y (same_ending x.ending y.ending (mean p [] 100000 []).ending a.0 b.0) (sym a.1 ∙ b.1)

abbrev refusal : Rule → Spot → Refusal
refusal rule at = record { rule = rule; at = at }

same_refusal : (x y : Refusal) → x.rule ≡ y.rule → x.at ≡ y.at → x ≡ y
same_refusal x y a b = ap (λ z. refusal z x.at) a ∙ ap (refusal y.rule) b

-- ---- answers

-- an accepted program of this text
abbrev pub IsAccepted : Command → List ℕ → Code → Type 0
IsAccepted command text p = IsSource text p × IsOfMode command p × Accepts p

pub refused_alone : Laws → (command : Command) (taken : List ℕ) (left : Option (List ℕ)) (r : Refusal) (p : Code)
    → IsFirstBroken command r.rule r.at taken left → IsWholeText taken left → IsAccepted command taken p → ⊥
refused_alone laws command taken left r p b t a = unbroken laws command taken p r.rule r.at a.0 a.1 a.2 t.0
    (long_or_broken command r.rule r.at taken left b)

-- a text that is refused is not that of an accepted program
refused_or_done : Laws → (command : Command) (taken : List ℕ) (left : Option (List ℕ)) (r : Refusal) (what : What)
    → IsFirstBroken command r.rule r.at taken left → IsWholeText taken left → IsDoneForSource command taken what → ⊥
refused_or_done laws command taken left r what x t (p, s, b, a, _) =
    refused_alone laws command taken left r p x t (s, b, a)

-- what an accepted program comes to is one thing
one_done_for : (command : Command) (p : Code) (a b : What) → IsTold a → IsTold b → IsDoneFor command p a
    → IsDoneFor command p b → a ≡ b
one_done_for command p w.Checked w.Checked _ _ x y = refl
one_done_for command p w.Checked (w.Graph h) _ _ x y = let no : ⊥ = cc in absurd no
one_done_for command p w.Checked (w.Ran h) _ _ x y = let no : ⊥ = cc in absurd no
one_done_for command p (w.Graph g) w.Checked _ _ x y = let no : ⊥ = cc in absurd no
one_done_for command p (w.Graph g) (w.Graph h) _ _ x y = ap w.Graph (x.1 ∙ sym y.1)
one_done_for command p (w.Graph g) (w.Ran h) _ _ x y = let no : ⊥ = cc in absurd no
one_done_for command p (w.Ran g) w.Checked _ _ x y = let no : ⊥ = cc in absurd no
one_done_for command p (w.Ran g) (w.Graph h) _ _ x y = let no : ⊥ = cc in absurd no
one_done_for command p (w.Ran g) (w.Ran h) _ _ x y = ap w.Ran (two_reports g h p x.1 y.1)
one_done_for command p (w.Usage k) b _ _ x y = absurd x
one_done_for command p w.ReadFault b _ _ x y = absurd x
one_done_for command p (w.Refused r) b _ _ x y = absurd x
one_done_for command p w.Memory b i _ x y = absurd i
one_done_for command p a (w.Usage k) _ _ x y = absurd y
one_done_for command p a w.ReadFault _ _ x y = absurd y
one_done_for command p a (w.Refused r) _ _ x y = absurd y
one_done_for command p a w.Memory _ i x y = absurd i

-- and so is what the accepted program of a text comes to
one_done_for_source : Laws → (command : Command) (text : List ℕ) (a b : What) → IsTold a → IsTold b
    → IsDoneForSource command text a → IsDoneForSource command text b → a ≡ b
one_done_for_source laws command text a b i j (p, s, _, _, x) (q, z, _, _, y)
    = one_done_for command p a b i j x (subst (λ k. IsDoneFor command k b) (one_source laws text p q s z) y)

-- a text that was read to its end is refused, or has an accepted program
data Settled (command : Command) (taken : List ℕ) (left : Option (List ℕ)) (what : What) : Type 0 where
  IsRefusal : (r : Refusal) → what ≡ w.Refused r → IsFirstBroken command r.rule r.at taken left
      → Settled command taken left what
  IsResult : IsWholeText taken left → IsDoneForSource command taken what → Settled command taken left what

settled : (command : Command) (taken : List ℕ) (left : Option (List ℕ)) (a : What) → IsTold a
    → IsDone command taken left a → Settled command taken left a
settled command taken left (w.Usage k) i x = absurd x
settled command taken left w.ReadFault i x = absurd i
settled command taken left (w.Refused r) i x = IsRefusal r refl x
settled command taken left w.Checked i x = IsResult x.0 x.1
settled command taken left (w.Graph g) i x = IsResult x.0 x.1
settled command taken left (w.Ran g) i x = IsResult x.0 x.1
settled command taken left w.Memory i x = absurd i

one_settled : Laws → (command : Command) (taken : List ℕ) (left : Option (List ℕ)) (a b : What) → IsTold a → IsTold b
    → Settled command taken left a → Settled command taken left b → a ≡ b
one_settled laws command taken left a b _ _ (IsRefusal r e x) (IsRefusal s f y) =
    let same = two_broken laws command taken r.rule s.rule r.at s.at
    (long_or_broken command r.rule r.at taken left x) (long_or_broken command s.rule s.at taken left y) in
    e ∙ ap w.Refused (same_refusal r s same.0 same.1) ∙ sym f
one_settled laws command taken left a b _ _ (IsRefusal r e x) (IsResult t y) =
    absurd (refused_or_done laws command taken left r b x t y)
one_settled laws command taken left a b _ _ (IsResult t x) (IsRefusal s f y) =
    absurd (refused_or_done laws command taken left s a y t x)
one_settled laws command taken left a b i j (IsResult t x) (IsResult u y)
    = one_done_for_source laws command taken a b i j x y

one_done : Laws → (command : Command) (taken : List ℕ) (left : Option (List ℕ)) (a b : What) → IsTold a → IsTold b
    → IsDone command taken left a → IsDone command taken left b → a ≡ b
one_done laws command taken left a b i j x y
    = one_settled laws command taken left a b i j (settled command taken left a i x) (settled command taken left b j y)

one_by : Laws → (asked : Result Command UsageKind) (taken : List ℕ) (left : Option (List ℕ)) (a b : What) → IsTold a
    → IsTold b → ByCommand asked taken left a → ByCommand asked taken left b → a ≡ b
one_by laws (Ok command) taken left a b i j x y = one_done laws command taken left a b i j x y
one_by laws (Err kind) taken left a b i j x y = x.0 ∙ sym y.0

-- an answer that is told comes of the command
by_command : (words : List (List ℕ)) (taken : List ℕ) (left : Option (List ℕ)) (a : What) → IsTold a
    → Caused words taken left a → ByCommand (command_of words) taken left a
by_command words taken left (w.Usage kind) i c = c
by_command words taken left w.ReadFault i c = c
by_command words taken left (w.Refused r) i c = c
by_command words taken left w.Checked i c = c
by_command words taken left (w.Graph graph) i c = c
by_command words taken left (w.Ran report) i c = c
by_command words taken left w.Memory i c = absurd i

-- by the laws, words and bytes have one answer
pub one_answer : Laws → IsOneAnswer
one_answer laws words taken left a b i j x y
    = one_by laws (command_of words) taken left a b i j (by_command words taken left a i x)
    (by_command words taken left b j y)

-- what was taken of known bytes is told by what is left
same_taken : (before after : Option (List ℕ)) (a b : List ℕ) → IsSome before → Consumes before after a
    → Consumes before after b → b ≡ a
same_taken None after a b known x y = let no : ⊥ = cc in absurd no
same_taken (Some xs) None a b known x y = absurd x
same_taken (Some xs) (Some ys) a b known x y = append_cancel_right b a ys (sym y ∙ x)

-- so an answer that has a cause is the only one
pub only_answer : IsOneAnswer → (words : List (List ℕ)) (before after : Option (List ℕ)) (what : What)
    → HasItsCause words before after what → IsOnlyAnswer words before after what
only_answer one words before after what (taken, consumed, caused) known told other is_told (others, also, causes) =
    one words taken after other what is_told told
    (subst (λ (l : List ℕ). Caused words l after other) (same_taken before after taken others known consumed also)
    causes) caused
