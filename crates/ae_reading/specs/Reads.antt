-- What a step of the parser found. D x us says that the tree x stands for the tokens us,
-- W l x that it keeps to the limit l, and F which token may follow it.
use Rattle.std.specs.Prelude.{◌≡◌, ◌<◌, ℕ, ◌++◌, List, [], ◌∷◌, length, Option, Some, None, Result, Ok, Err}
use Rattle.std.specs.Borrow.{Bor}
use Rattle.ae_text.specs.declared.refusal.Spot.{Spot}
use Rattle.ae_tree.specs.declared.lexeme.Lexeme.{Lexeme}
use Rattle.ae_tree.specs.declared.lexeme.Lexical.{Lexical}
use Rattle.ae_tree.specs.declared.lexeme.Lexical.TheVariants.{Name, End}
use Rattle.ae_tree.specs.declared.limits.Limit.{Limit}
use Rattle.ae_tree.specs.Grammar.{Tokens, ◌⨾◌, no_tokens, one_at, one_token}
use Rattle.ae_tree.specs.Limits.{early, rank}
use Rattle.ae_tree.specs.Refused.{AreSpellable, IsHead, CanPass}
use Rattle.ae_reading.specs.declared.fail.Fail.{Fail}
use Rattle.ae_reading.specs.declared.fail.Fail.TheVariants.{Refused, Memory}
use Rattle.ae_reading.specs.declared.fail.Why.{Why}
use Rattle.ae_reading.specs.declared.fail.Why.TheVariants.{Unexpected, Over}

-- ---- the next token

abbrev pub head : Tokens → Option Lexeme
head [] = None
head (t ∷ ts) = Some t

-- any token, or none
abbrev pub Always : Option Lexeme → Type 0
Always o = Unit {0}

-- a token of this kind
abbrev pub Is : Lexical → Option Lexeme → Type 0
Is k None = ⊥
Is k (Some t) = t.kind ≡ k

-- a token of another kind, or none
abbrev pub Isnt : Lexical → Option Lexeme → Type 0
Isnt k None = Unit {0}
Isnt k (Some t) = t.kind ≡ k → ⊥

-- a name
abbrev pub IsName : Option Lexeme → Type 0
IsName None = ⊥
IsName (Some t) = (n : ℕ) × (t.kind ≡ Name n)

-- the end is none of these
abbrev pub EndIsNone : Tokens → Type 0
EndIsNone [] = Unit {0}
EndIsNone (t ∷ ts) = (t.kind ≡ End → ⊥) × EndIsNone ts

-- ---- single tokens

-- a token of this kind, at the place that is its tree
abbrev pub Token : Lexical → Spot → Tokens → Type 0
Token k = one_at k

-- a token of this kind, whose place is not kept
abbrev pub TokenMark : Lexical → Unit {0} → Tokens → Type 0
TokenMark k x = one_token k

-- ---- one after another, where what an item is depends on those before it

-- items that begin in the state s, with the state behind each
abbrev pub chain : {S A : Type 0} → (S → A → Tokens → Type 0) → (S → A → S) → S → List A → Tokens → Type 0
chain D next s [] = no_tokens
chain D next s (x ∷ xs) = D s x ⨾ chain D next (next s x) xs

-- the state behind items
abbrev pub state_after : {S A : Type 0} → (S → A → S) → S → List A → S
state_after next s [] = s
state_after next s (x ∷ xs) = state_after next (next s x) xs

-- ---- what a step answers

-- no limit
abbrev pub Free : {A : Type 0} → Limit → A → Type 0
Free l x = Unit {0}

-- within all limits
abbrev pub IsWithinAll : {A : Type 0} → (Limit → A → Type 0) → A → Type 0
IsWithinAll W x = (l : Limit) → W l x

-- within all limits, but for blocks that are too deep
abbrev pub IsNearlyWithin : {A : Type 0} → (Limit → A → Type 0) → A → Type 0
IsNearlyWithin W x = (l : Limit) → W (early l) x

-- x was read, and rest is left. All that begins with the same tokens, the next one counted, begins with x.
pub record Took {A : Type 0} (D : A → Tokens → Type 0) (W : Limit → A → Type 0) (F : Option Lexeme → Type 0)
    (ts : Tokens) (x : A) (rest : Tokens) : Type 0 where
  pub taken : Tokens
  pub whole : ts ≡ taken ++ rest
  pub derives : D x taken
  pub within : IsWithinAll W x
  pub no_end : EndIsNone taken
  pub only : (y : A) (us r other : Tokens) → D y us → us ++ r ≡ taken ++ other → head other ≡ head rest → F (head r)
      → (y ≡ x) × (r ≡ other)

-- where a token is unexpected, trees of any size count, and where it is over a limit, those that keep to it
abbrev pub Counts : Why → (Limit → Type 0) → Type 0
Counts Unexpected keeps = Unit {0}
Counts (Over l) keeps = keeps l

-- a tree within the limits named before this one goes on with the next token, which this limit can refuse
pub record Larger {A : Type 0} (l : Limit) (D : A → Tokens → Type 0) (W : Limit → A → Type 0) (before rest : Tokens)
    : Type 0 where
  pub next : Lexeme
  pub later : Tokens
  pub rest_is : rest ≡ next ∷ later
  pub tree : A
  pub after : Tokens
  pub goes_on : D tree (before ++ (next ∷ after))
  pub known : AreSpellable after
  pub passes : CanPass l next.kind
  pub others : (m : Limit) → rank m < rank l → W m tree

abbrev pub Beyond : {A : Type 0} → (A → Tokens → Type 0) → (Limit → A → Type 0) → Tokens → Tokens → Why → Type 0
Beyond D W before rest Unexpected = Unit {0}
Beyond D W before rest (Over l) = Larger l D W before rest

-- The first tokens begin a tree within all limits, and the others only lead up to what comes next.
pub record Lead {A : Type 0} (D : A → Tokens → Type 0) (W : Limit → A → Type 0) (before : Tokens) : Type 0 where
  pub start : Tokens
  pub ahead : Tokens
  pub parts : before ≡ start ++ ahead
  pub leads : IsHead ahead
  pub tree : A
  pub more : Tokens
  pub goes : D tree (start ++ more)
  pub known : AreSpellable more
  pub within : IsWithinAll W tree

-- The tokens before `rest` begin a tree within the limits, but for those that are decided early. With the next token no tree goes on;
-- where a limit is the cause, one within the limits named before it does, and none that keeps to it. From the next token on, `left` tokens are left.
pub record Stopped {A : Type 0} (D : A → Tokens → Type 0) (W : Limit → A → Type 0) (F : Option Lexeme → Type 0)
    (ts : Tokens) (why : Why) (left : ℕ) : Type 0 where
  pub before : Tokens
  pub rest : Tokens
  pub whole : ts ≡ before ++ rest
  pub left_is : left ≡ length rest
  pub tree : A
  pub more : Tokens
  pub goes : D tree (before ++ more)
  pub known : AreSpellable more
  pub within : IsNearlyWithin W tree
  pub lead : Lead D W before
  pub no_end : EndIsNone before
  pub stuck : (y : A) (us r other : Tokens) → D y us → us ++ r ≡ before ++ other → head other ≡ head rest → F (head r)
      → Counts why (λ l. W l y) → ⊥
  pub beyond : Beyond D W before rest why

abbrev pub Fails : {A : Type 0} → (A → Tokens → Type 0) → (Limit → A → Type 0) → (Option Lexeme → Type 0) → Tokens
    → Fail → Type 0
Fails D W F ts (Refused why left) = Stopped D W F ts why left
Fails D W F ts Memory = Unit {0}

-- the same as a record
pub record Failed {A : Type 0} (D : A → Tokens → Type 0) (W : Limit → A → Type 0) (F : Option Lexeme → Type 0)
    (ts : Tokens) (e : Fail) : Type 0 where
  pub why : Fails D W F ts e

-- a tree in the form of the program, shown as plain data, and what is left behind it; or why there is none
abbrev pub Reads : {T A : Type 0} → (T → A) → (A → Tokens → Type 0) → (Limit → A → Type 0) → (Option Lexeme → Type 0)
    → Tokens → Result (T × Bor Tokens) Fail → Type 0
Reads show D W F ts (Ok x) = Took D W F ts (show x.0) x.1.now
Reads show D W F ts (Err e) = Failed D W F ts e

abbrev pub itself : {A : Type 0} → A → A
itself x = x
