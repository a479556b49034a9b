-- Parts that may be absent, and lists with commas.
use Rattle.std.proofs.Common.{◌≡◌, ℕ, ◌++◌, List, [], ◌∷◌, ◌⊎◌, inl, inr, Option, Some, None, refl, sym, ap, ◌∙◌}
use Rattle.std.proofs.Common.{append_assoc, subst}
use Rattle.ae_text.specs.declared.token.Sign.TheVariants as sign
use Rattle.ae_tree.specs.declared.lexeme.Lexeme.{Lexeme}
use Rattle.ae_tree.specs.declared.lexeme.Lexical.{Lexical}
use Rattle.ae_tree.specs.declared.lexeme.Lexical.TheVariants as tok
use Rattle.ae_tree.specs.declared.limits.Limit.{Limit}
use Rattle.ae_tree.specs.Grammar.{Tokens, no_tokens, one_by_one, further, separated, comma_list}
use Rattle.ae_reading.specs.declared.fail.Fail.{Fail}
use Rattle.ae_reading.specs.declared.fail.Why.{Why}
use Rattle.ae_reading.specs.Reads.{head, Always, Is, Isnt, Free, IsWithinAll, Took, Stopped, Failed, TokenMark}
use Rattle.ae_reading.proofs.ReadsLemmas.{Lang, Bound, Follow, Links, Both, Limits, Pair, Has, Along, When, NoneAt}
use Rattle.ae_reading.proofs.ReadsLemmas.{took_as, stopped_as, took_when, stopped_when, took_nothing, took_then}
use Rattle.ae_reading.proofs.ReadsLemmas.{stopped_second, stopped_first_with, failed_by, first, second, both, free}
use Rattle.ae_reading.proofs.Runs.{each-one, each_turns}
use Rattle.ae_reading.proofs.Begins.{Begins, is_isnt, is_by, begins_as, begins_not, opens_so, opens_mark}

-- ---- a part that may be absent

-- a tree of D, or none
abbrev pub optional : {A : Type 0} → Lang A → Lang (Option A)
optional D None = no_tokens
optional D (Some x) = D x

-- The trees of D are `none`, which stands for no token, and those that are built from the trees of E.
pub record Optional {A B : Type 0} (D : Lang A) (E : Lang B) (W : Bound A) (V : Bound B) (none : A) (some : B → A)
    : Type 0 where
  pub absent : D none []
  pub present : (q : B) (us : Tokens) → E q us → D (some q) us
  pub cases : (y : A) (us : Tokens) → D y us → ((y ≡ none) × (us ≡ [])) ⊎ ((q : B) × (y ≡ some q) × E q us)
  pub none_within : IsWithinAll W none
  pub to : (q : B) (us : Tokens) → E q us → (l : Limit) → V l q → W l (some q)
  pub from : (q : B) (us : Tokens) → E q us → (l : Limit) → W l (some q) → V l q

absent_case : {A B : Type 0} (E : Lang B) {none : A} (some : B → A) (ts : Tokens) → NoneAt E ts →
    (y : A) (us r : Tokens) → head (us ++ r) ≡ head ts → ((y ≡ none) × (us ≡ [])) ⊎ ((q : B) × (y ≡ some q) × E q us)
    → (y ≡ none) × (us ≡ [])
absent_case E some ts nowhere y us r h (inl c) = c
absent_case E some ts nowhere y us r h (inr c) = absurd (nowhere c.0 us r c.2 h)

-- the next token does not begin E
pub took_absent : {A B : Type 0} {D : Lang A} {E : Lang B} {W : Bound A} {V : Bound B} {none : A} {some : B → A}
    (F : Follow) {ts : Tokens} →
    Optional D E W V none some → NoneAt E ts → Took D W F ts none ts
took_absent {D = D} {E = E} {W = W} {none = none} {some = some} F {ts} o nowhere =
    took_nothing D W F ts none o.absent o.none_within
    (λ y us r d h f. absent_case E some ts nowhere y us r h (o.cases y us d))

present_case : {A B : Type 0} (E : Lang B) (F : Follow) {none : A} (some : B → A) (ts : Tokens) → (F (head ts) → ⊥) →
    (y : A) (us r : Tokens) → head (us ++ r) ≡ head ts → F (head r) → ((y ≡ none) × (us ≡ []))
    ⊎ ((q : B) × (y ≡ some q) × E q us) → (q : B) × (y ≡ some q) × E q us
present_case E F some ts begins y us r h f (inl c) = let P : Option Lexeme
    → Type 0 = F in absurd (begins (subst P (ap head (ap (λ l. l ++ r) (sym c.1)) ∙ h) f))
present_case E F some ts begins y us r h f (inr c) = c

-- the next token cannot follow, so the part is there
present_when : {A B : Type 0} {D : Lang A} {E : Lang B} {W : Bound A} {V : Bound B} {F : Follow} {none : A}
    {some : B → A} {ts : Tokens} →
    Optional D E W V none some → (F (head ts) → ⊥) → When D E W V F F ts some
present_when {E = E} {F = F} {some = some} {ts = ts} o begins = record {
  intro = o.present;
  cases = λ y us r d h f. let p = present_case E F some ts begins y us r h f (o.cases y us d) in (p.0, p.1, p.2, f);
  to = o.to;
  from = o.from;
}

pub took_present : {A B : Type 0} {D : Lang A} {E : Lang B} {W : Bound A} {V : Bound B} {F : Follow} {none : A}
    {some : B → A} {ts rest : Tokens} {q : B} →
    Optional D E W V none some → (F (head ts) → ⊥) → Took E V F ts q rest → Took D W F ts (some q) rest
took_present {D = D} {E = E} {F = F} {some = some} {ts = ts} o begins t = took_when D E some
    (present_when {F = F} {some = some} {ts = ts} o begins) t

pub stopped_present : {A B : Type 0} {D : Lang A} {E : Lang B} {W : Bound A} {V : Bound B} {F : Follow} {none : A}
    {some : B → A} {ts : Tokens} {why : Why} {left : ℕ} →
    Optional D E W V none some → (F (head ts) → ⊥) → Stopped E V F ts why left → Stopped D W F ts why left
stopped_present {D = D} {E = E} {F = F} {some = some} {ts = ts} o begins u = stopped_when D E some
    (present_when {F = F} {some = some} {ts = ts} o begins) u

pub failed_present : {A B : Type 0} {D : Lang A} {E : Lang B} {W : Bound A} {V : Bound B} {F : Follow} {none : A}
    {some : B → A} {ts : Tokens} {e : Fail} →
    Optional D E W V none some → (F (head ts) → ⊥) → Failed E V F ts e → Failed D W F ts e
failed_present o begins f = failed_by (λ why left s. stopped_present o begins s) f

-- what comes next may not follow, so there is a tree of D
optional_when : {A : Type 0} {D : Lang A} {V : Bound (Option A)} {W : Bound A} {F G : Follow} {ts : Tokens}
    → (F (head ts) → ⊥) → ((o : Option Lexeme) → F o → G o) →
    ((l : Limit) (z : A) → W l z → V l (Some z)) → ((l : Limit) (z : A) → V l (Some z) → W l z)
    → When (optional D) D V W F G ts Some
optional_when {A} {D} {V} {W} {F} {G} {ts} begins less fits back =
    record { intro = λ q us d. d; cases = there; to = λ q us d l w. fits l q w; from = λ q us d l v. back l q v }
  where
    there : (y : Option A) (us r : Tokens) → optional D y us → head (us ++ r) ≡ head ts → F (head r)
        → (q : A) × (y ≡ Some q) × D q us × G (head r)
    there None us r d h f = let P : Option Lexeme
        → Type 0 = F in absurd (begins (subst P (ap head (ap (λ l. l ++ r) (sym d)) ∙ h) f))
    there (Some z) us r d h f = (z, refl, d, less (head r) f)

pub took_optional : {A : Type 0} {D : Lang A} {V : Bound (Option A)} {W : Bound A} {F G : Follow} {ts rest : Tokens}
    {x : A} → (F (head ts) → ⊥) → ((o : Option Lexeme) → F o → G o) →
    ((l : Limit) (z : A) → W l z → V l (Some z)) → ((l : Limit) (z : A) → V l (Some z) → W l z) → Took D W G ts x rest
    → Took (optional D) V F ts (Some x) rest
took_optional {D = D} {F = F} {G = G} begins less fits back t = took_when (optional D) D Some
    (optional_when {F = F} {G = G} begins less fits back) t

pub stopped_optional : {A : Type 0} {D : Lang A} {V : Bound (Option A)} {W : Bound A} {F G : Follow} {ts : Tokens}
    {why : Why} {left : ℕ} → (F (head ts) → ⊥) → ((o : Option Lexeme) → F o → G o) →
    ((l : Limit) (z : A) → W l z → V l (Some z)) → ((l : Limit) (z : A) → V l (Some z) → W l z)
    → Stopped D W G ts why left → Stopped (optional D) V F ts why left
stopped_optional {D = D} {F = F} {G = G} begins less fits back u = stopped_when (optional D) D Some
    (optional_when {F = F} {G = G} begins less fits back) u

-- no tree of D begins here
pub left_out : {A : Type 0} {D : Lang A} {V : Bound (Option A)} {F : Follow} {ts : Tokens} → NoneAt D ts
    → IsWithinAll V None → Took (optional D) V F ts None ts
left_out {A} {D} {V} {F} {ts} none v = took_nothing (optional D) V F ts None refl v there
  where
    there : (y : Option A) (us r : Tokens) → optional D y us → head (us ++ r) ≡ head ts → F (head r)
        → (y ≡ None) × (us ≡ [])
    there None us r d h f = (refl, d)
    there (Some z) us r d h f = absurd (none z us r d h)

-- ---- one more item, with its comma

abbrev pub Comma : Lexical
Comma = tok.Sign sign.Comma

pub further_along : {A : Type 0} (D : Lang A) (W : Bound A) (ts : Tokens)
    → Along (further D) (Both (TokenMark Comma) D) W (Pair Free W) ts (λ p. p.1)
further_along D W ts = record {
  intro = λ q us d. d;
  cases = λ y us r d h. ((tt, y), refl, d);
  to = λ q us d l v. v.1;
  from = λ q us d l v. (tt, v);
}

pub took_further : {A : Type 0} {D : Lang A} {W : Bound A} {F : Follow} {ts rest rest' : Tokens} {x : A} →
    Took (TokenMark Comma) Free Always ts tt rest → Took D W F rest x rest' → Took (further D) W F ts x rest'
took_further {A} {D} {W} {F} {ts} c t = took_as (further D) (Both (TokenMark Comma) D) (λ p. p.1)
    (further_along D W ts) (both (free D F) c t)

-- there is no comma
pub further_first : {A : Type 0} {D : Lang A} {W : Bound A} {F : Follow} {ts : Tokens} {e : Fail} →
    Has D W → Failed (TokenMark Comma) Free Always ts e → Failed (further D) W F ts e
further_first {A} {D} {W} {F} {ts} has f =
    failed_by (λ why left s. stopped_as (further D) (Both (TokenMark Comma) D) (λ p. p.1) (further_along D W ts) s)
    (first {F = Always} {G = F} (free D F) has f)

-- the item behind the comma fails
pub further_second : {A : Type 0} {D : Lang A} {W : Bound A} {F : Follow} {ts rest : Tokens} {e : Fail} →
    Took (TokenMark Comma) Free Always ts tt rest → Failed D W F rest e → Failed (further D) W F ts e
further_second {A} {D} {W} {F} {ts} c f =
    failed_by (λ why left s. stopped_as (further D) (Both (TokenMark Comma) D) (λ p. p.1) (further_along D W ts) s)
    (second (free D F) c f)

-- ---- lists with commas

-- An item lets a comma follow, and what the list lets follow; the list lets no comma follow.
pub record Commas (F G : Follow) : Type 0 where
  pub comma : (t : Lexeme) → t.kind ≡ Comma → F (Some t)
  pub ends : (o : Option Lexeme) → G o → F o
  pub stops : (o : Option Lexeme) → G o → Isnt Comma o

pub begins_further : {A : Type 0} (D : Lang A) → Begins (further D) (Is Comma)
begins_further D x us r d = opens_so us r (opens_mark us r d)

pub commas_link : {A : Type 0} (D : Lang A) {F G : Follow} → Commas F G → Links (one_by_one (further D)) G F
commas_link D {F} {G} c = each_turns (further D) G F
    (begins_as (further D) (Is Comma) F (is_by Comma F c.comma) (begins_further D)) c.ends

-- with a comma the list goes on
pub commas_go_on : {F G : Follow} (rest : Tokens) → Commas F G → Is Comma (head rest) → G (head rest) → ⊥
commas_go_on {F} {G} rest c i g = is_isnt Comma (head rest) i (c.stops (head rest) g)

-- and without one it does not
pub no_comma : {A : Type 0} (D : Lang A) (rest : Tokens) → (Is Comma (head rest) → ⊥) → NoneAt (further D) rest
no_comma D rest other = begins_not (further D) (Is Comma) rest (begins_further D) other

-- the limit of a list is the one of its first item and that of the others behind it
pub record Parted {A : Type 0} (W : Bound A) (V : Limit → A → List A → Type 0) (U : Bound (List A)) : Type 0 where
  pub to : (l : Limit) (x : A) (xs : List A) → W l x → V l x xs → U l (x ∷ xs)
  pub from : (l : Limit) (x : A) (xs : List A) → U l (x ∷ xs) → W l x × V l x xs

-- at least one, as its first and the others
abbrev pub Whole : {A : Type 0} → Lang A → Lang (A × List A)
Whole D = Both D (one_by_one (further D))

abbrev pub joined : {A : Type 0} → A × List A → List A
joined p = p.0 ∷ p.1

pub separated_cases : {A : Type 0} (D : Lang A) (ys : List A) (us : Tokens) → separated D ys us
    → (q : A × List A) × (ys ≡ joined q) × Whole D q us
separated_cases D [] us d = absurd d
separated_cases D (y ∷ ys) us d = ((y, ys), refl, d)

separated_along : {A : Type 0} (D : Lang A) {W : Bound A} {V : Limit → A → List A → Type 0} {U : Bound (List A)}
    (ts : Tokens) → Parted W V U → Along (separated D) (Whole D) U (Limits W V) ts joined
separated_along D ts p = record {
  intro = λ q us d. d;
  cases = λ y us r d h. separated_cases D y us d;
  to = λ q us d l v. p.to l q.0 q.1 v.0 v.1;
  from = λ q us d l v. p.from l q.0 q.1 v;
}

pub took_separated : {A : Type 0} {D : Lang A} {W : Bound A} (V : Limit → A → List A → Type 0) {U : Bound (List A)}
    {F G : Follow} {ts mid rest : Tokens} {x : A} {xs : List A} →
    Parted W V U → Commas F G → Took D W F ts x mid → Took (one_by_one (further D)) (λ l. V l x) G mid xs rest
    → Took (separated D) U G ts (x ∷ xs) rest
took_separated {A} {D} {W} V {U} {F} {G} {ts} p c t u =
    took_as (separated D) (Whole D) joined (separated_along D {V = V} ts p)
    (took_then V (commas_link D {F = F} {G = G} c) t u)

-- the first item stops
pub separated_first : {A : Type 0} {D : Lang A} {W : Bound A} (V : Limit → A → List A → Type 0) {U : Bound (List A)}
    {F G : Follow} {ts : Tokens} {e : Fail} →
    Parted W V U → Commas F G → ((l : Limit) (x : A) → W l x → V l x []) → Failed D W F ts e
    → Failed (separated D) U G ts e
separated_first {A} {D} {W} V {U} {F} {G} {ts} p c alone f = failed_by (λ why left s.
    stopped_as (separated D) (Whole D) joined (separated_along D {V = V} ts p)
    (stopped_first_with {F = F} {G = G} V (commas_link D {F = F} {G = G} c) [] [] refl tt alone s)) f

-- those behind the first one stop
pub separated_more : {A : Type 0} {D : Lang A} {W : Bound A} (V : Limit → A → List A → Type 0) {U : Bound (List A)}
    {F G : Follow} {ts mid : Tokens} {x : A} {e : Fail} →
    Parted W V U → Commas F G → Took D W F ts x mid → Failed (one_by_one (further D)) (λ l. V l x) G mid e
    → Failed (separated D) U G ts e
separated_more {A} {D} {W} V {U} {F} {G} {ts} p c t f = failed_by (λ why left s.
    stopped_as (separated D) (Whole D) joined (separated_along D {V = V} ts p)
    (stopped_second V (commas_link D {F = F} {G = G} c) t s)) f

-- where each item ends by itself, and no limit counts
pub free_commas : {G : Follow} → ((o : Option Lexeme) → G o → Isnt Comma o) → Commas Always G
free_commas stops = record { comma = λ t e. tt; ends = λ o g. tt; stops = stops }

pub free_parted : {A : Type 0} → Parted Free (λ l (x : A). Free l) Free
free_parted = record { to = λ l x xs w v. tt; from = λ l x xs v. (tt, tt) }

pub has_separated : {A : Type 0} (D : Lang A) → Has D Free → Has (separated D) Free
has_separated D a = record {
  tree = a.tree ∷ [];
  tokens = a.tokens;
  is = each-one D a.tree a.tokens a.is;
  known =
      a.known;
  within = λ l. tt;
}

-- ---- lists that may be empty

listed_cases : {A : Type 0} (D : Lang A) (ys : List A) (us : Tokens) → comma_list D ys us → ((ys ≡ []) × (us ≡ []))
    ⊎ ((q : List A) × (ys ≡ q) × separated D q us)
listed_cases D [] us d = inl (refl, d)
listed_cases D (y ∷ ys) us d = inr (y ∷ ys, refl, d)

listed_some : {A : Type 0} (D : Lang A) (ys : List A) (us : Tokens) → separated D ys us → comma_list D ys us
listed_some D [] us d = absurd d
listed_some D (y ∷ ys) us d = d

-- a list of none or some is one that may be absent
pub listed_optional : {A : Type 0} (D : Lang A) (U : Bound (List A)) → IsWithinAll U []
    → Optional (comma_list D) (separated D) U U [] (λ xs. xs)
listed_optional D U u = record {
  absent = refl;
  present = listed_some D;
  cases = listed_cases D;
  none_within = u;
  to = λ q us d l v. v;
  from = λ q us d l v. v;
}

separated_head : {A : Type 0} (D : Lang A) (ts : Tokens) → NoneAt D ts → NoneAt (separated D) ts
separated_head D ts none [] us r d h = d
separated_head D ts none (y ∷ ys) us r d h = none y d.front (d.back ++ r) d.first
    (ap head (sym (append_assoc d.front d.back r) ∙ ap (λ l. l ++ r) (sym d.parts)) ∙ h)

-- no item begins with the next token
pub took_none : {A : Type 0} (D : Lang A) (U : Bound (List A)) (F : Follow) {ts : Tokens} → IsWithinAll U []
    → NoneAt D ts → Took (comma_list D) U F ts [] ts
took_none D U F {ts} u none = took_absent F (listed_optional D U u) (separated_head D ts none)

-- the next token cannot follow the list
pub took_some : {A : Type 0} (D : Lang A) (U : Bound (List A)) {F : Follow} {ts rest : Tokens} {xs : List A}
    → IsWithinAll U [] → (F (head ts) → ⊥) → Took (separated D) U F ts xs rest → Took (comma_list D) U F ts xs rest
took_some D U u begins t = took_present (listed_optional D U u) begins t

pub failed_some : {A : Type 0} (D : Lang A) (U : Bound (List A)) {F : Follow} {ts : Tokens} {e : Fail}
    → IsWithinAll U [] → (F (head ts) → ⊥) → Failed (separated D) U F ts e → Failed (comma_list D) U F ts e
failed_some D U u begins f = failed_present (listed_optional D U u) begins f
