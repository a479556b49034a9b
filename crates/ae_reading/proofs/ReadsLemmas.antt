-- Languages in sequence, in turn and by choice, with limits.
use Rattle.std.proofs.Common.{◌≡◌, ℕ, ◌++◌, [], ◌∷◌, length, Option, Some, None, refl, sym, ap, ◌∙◌, append_assoc}
use Rattle.std.proofs.Common.{append-nil, subst, arith, length-append, ◌+◌, ◌<◌, ◌≤◌, Result, Ok, Err, IsErrAnd, Bor}
use Rattle.ae_text.specs.declared.refusal.Spot.{Spot}
use Rattle.ae_tree.specs.declared.lexeme.Lexeme.{Lexeme}
use Rattle.ae_tree.specs.declared.lexeme.Lexical.{Lexical}
use Rattle.ae_tree.specs.declared.lexeme.Lexical.TheVariants.{Name, End}
use Rattle.ae_tree.specs.declared.limits.Limit.{Limit}
use Rattle.ae_tree.specs.Grammar.{Tokens, ◌⨾◌, one_token, name}
use Rattle.ae_tree.specs.Limits.{early}
use Rattle.ae_tree.specs.Names.{io}
use Rattle.ae_tree.specs.declared.tree.NameAt.{NameAt}
use Rattle.ae_tree.specs.Refused.{IsKnown, AreSpellable}
use Rattle.ae_reading.specs.declared.fail.Fail.{Fail}
use Rattle.ae_reading.specs.declared.fail.Fail.TheVariants.{Refused, Memory}
use Rattle.ae_reading.specs.declared.fail.Why.{Why}
use Rattle.ae_reading.specs.declared.fail.Why.TheVariants.{Unexpected, Over}
use Rattle.ae_reading.specs.Reads.{head, Always, EndIsNone, Free, IsWithinAll, Took, Lead, Stopped, Counts, Beyond}
use Rattle.ae_reading.specs.Reads.{Fails, Failed, Reads, Token, TokenMark}

abbrev pub Lang : Type 0 → Type 1
Lang A = A → Tokens → Type 0

-- what keeps to each limit
abbrev pub Bound : Type 0 → Type 1
Bound A = Limit → A → Type 0

abbrev pub Follow : Type 1
Follow = Option Lexeme → Type 0

pub head-append : (a b c : Tokens) → head b ≡ head c → head (a ++ b) ≡ head (a ++ c)
head-append [] b c e = e
head-append (x ∷ a) b c e = refl

pub NoEnd-append : (a b : Tokens) → EndIsNone a → EndIsNone b → EndIsNone (a ++ b)
NoEnd-append [] b m n = n
NoEnd-append (t ∷ a) b m n = (m.0, NoEnd-append a b m.1 n)

pub AreKnown-append : (a b : Tokens) → AreSpellable a → AreSpellable b → AreSpellable (a ++ b)
AreKnown-append [] b m n = n
AreKnown-append (t ∷ a) b m n = (m.0, AreKnown-append a b m.1 n)

pub counts_by : (why : Why) {w v : Limit → Type 0} → ((l : Limit) → w l → v l) → Counts why w → Counts why v
counts_by Unexpected f c = tt
counts_by (Over l) f c = f l c

-- ---- in sequence

-- what the trees of E and then G let follow lets D end
abbrev pub Links : {B : Type 0} → Lang B → Follow → Follow → Type 0
Links {B} E G F = (y : B) (us r : Tokens) → E y us → G (head r) → F (head (us ++ r))

abbrev pub Both : {A B : Type 0} → Lang A → Lang B → Lang (A × B)
Both D E p = D p.0 ⨾ E p.1

-- the limit of the second part may depend on the first
abbrev pub Limits : {A B : Type 0} → Bound A → (Limit → A → B → Type 0) → Bound (A × B)
Limits W V l p = W l p.0 × V l p.0 p.1

abbrev pub Pair : {A B : Type 0} → Bound A → Bound B → Bound (A × B)
Pair W V = Limits W (λ l x. V l)

-- the language of the second part may depend on the first
abbrev pub After : {A B : Type 0} → Lang A → (A → Lang B) → Lang (A × B)
After D E p = D p.0 ⨾ E p.0 p.1

-- what each second part and then G let follow lets D end
abbrev pub AfterLinks : {A B : Type 0} → (A → Lang B) → Follow → Follow → Type 0
AfterLinks {A} {B} E G F = (x : A) (y : B) (us r : Tokens) → E x y us → G (head r) → F (head (us ++ r))

-- both were read
pub took_after : {A B : Type 0} {D : Lang A} {E : A → Lang B} {F G : Follow} {W : Bound A}
    (V : Limit → A → B → Type 0) {ts rest rest' : Tokens} {x : A} {y : B} →
    AfterLinks E G F → Took D W F ts x rest → Took (E x) (λ l. V l x) G rest y rest'
    → Took (After D E) (Limits W V) G ts (x, y) rest'
took_after {A} {B} {D} {E} {F} {G} {W} V {ts} {rest} {rest'} {x} {y} link t u = record {
  taken = t.taken ++ u.taken;
  whole = t.whole ∙ ap (λ l. t.taken ++ l) u.whole ∙ sym (append_assoc t.taken u.taken rest');
  no_end = NoEnd-append t.taken u.taken t.no_end u.no_end;
  derives = record { front = t.taken; back = u.taken; parts = refl; first = t.derives; second = u.derives };
  within = λ l. (t.within l, u.within l);
  only = λ p us r other d e h f.
      let e1 : d.front ++ (d.back ++ r) ≡ t.taken ++ (u.taken ++ other) = sym (append_assoc d.front d.back r)
      ∙ ap (λ l. l ++ r) (sym d.parts) ∙ e ∙ append_assoc t.taken u.taken other in
      let h1 : head (u.taken ++ other) ≡ head rest = head-append u.taken other rest' h ∙ ap head (sym u.whole) in
      let one_token = t.only p.0 d.front (d.back ++ r) (u.taken ++ other) d.first e1 h1
      (link p.0 p.1 d.back r d.second f) in
      let P : A → Type 0 = λ a. E a p.1 d.back in
      let two = u.only p.1 d.back r other (subst P one_token.0 d.second) one_token.1 h f in
      (ap (λ a. (a, p.1)) one_token.0 ∙ ap (λ b. (x, b)) two.0, two.1);
}

beyond_second : {A B : Type 0} (D : Lang A) (E : A → Lang B) (W : Bound A) (V : Limit → A → B → Type 0) (why : Why)
    (x : A) (taken before rest : Tokens) →
    D x taken → IsWithinAll W x → Beyond (E x) (λ l. V l x) before rest why
    → Beyond (After D E) (Limits W V) (taken ++ before) rest why
beyond_second D E W V Unexpected x taken before rest d w b = tt
beyond_second D E W V (Over l) x taken before rest d w b = record {
  others = λ m n. (w m, b.others m n);
  next = b.next;
  later = b.later;
  rest_is = b.rest_is;
  tree = (x, b.tree);
  after = b.after;
  known = b.known;
  passes = b.passes;
  goes_on = record {
    front = taken;
    back = before ++ (b.next ∷ b.after);
    parts = append_assoc taken before
        (b.next ∷ b.after);
    first = d;
    second = b.goes_on;
  };
}

lead_second : {A B : Type 0} (D : Lang A) (E : A → Lang B) (W : Bound A) (V : Limit → A → B → Type 0) {x : A}
    (taken before : Tokens) →
    D x taken → IsWithinAll W x → Lead (E x) (λ l. V l x) before → Lead (After D E) (Limits W V) (taken ++ before)
lead_second D E W V {x} taken before d w u = record {
  start = taken ++ u.start;
  ahead = u.ahead;
  parts = ap (λ l. taken ++ l) u.parts ∙ sym (append_assoc taken u.start u.ahead);
  leads = u.leads;
  tree = (x, u.tree);
  more = u.more;
  goes = record {
    front = taken;
    back = u.start ++ u.more;
    parts = append_assoc taken u.start u.more;
    first =
        d;
    second = u.goes;
  };
  known = u.known;
  within = λ l. (w l, u.within l);
}

-- the first part was read, and the second stops
pub after_second : {A B : Type 0} {D : Lang A} {E : A → Lang B} {F G : Follow} {W : Bound A}
    (V : Limit → A → B → Type 0) {ts rest : Tokens} {x : A} {why : Why} {left : ℕ} →
    AfterLinks E G F → Took D W F ts x rest → Stopped (E x) (λ l. V l x) G rest why left
    → Stopped (After D E) (Limits W V) G ts why left
after_second {A} {B} {D} {E} {F} {G} {W} V {ts} {rest} {x} {why} {left} link t u = record {
  before = t.taken ++ u.before;
  rest = u.rest;
  whole = t.whole ∙ ap (λ l. t.taken ++ l) u.whole ∙ sym (append_assoc t.taken u.before u.rest);
  left_is = u.left_is;
  tree = (x, u.tree);
  more = u.more;
  known = u.known;
  no_end = NoEnd-append t.taken u.before t.no_end u.no_end;
  goes = record {
    front = t.taken;
    back = u.before ++ u.more;
    parts = append_assoc t.taken u.before u.more;
    first =
        t.derives;
    second = u.goes;
  };
  within = λ l. (t.within (early l), u.within l);
  lead = lead_second D E W V t.taken u.before t.derives t.within u.lead;
  stuck = λ p us r other d e h f w.
      let e1 : d.front ++ (d.back ++ r) ≡ t.taken ++ (u.before ++ other) = sym (append_assoc d.front d.back r)
      ∙ ap (λ l. l ++ r) (sym d.parts) ∙ e ∙ append_assoc t.taken u.before other in
      let h1 : head (u.before ++ other) ≡ head rest = head-append u.before other u.rest h ∙ ap head (sym u.whole) in
      let one_token = t.only p.0 d.front (d.back ++ r) (u.before ++ other) d.first e1 h1
      (link p.0 p.1 d.back r d.second f) in
      let Q : A → Type 0 = λ a. E a p.1 d.back in
      u.stuck p.1 d.back r other (subst Q one_token.0 d.second) one_token.1 h f
      (counts_by why (λ l v. let P : A → Type 0 = λ a. V l a p.1 in subst P one_token.0 v.1) w);
  beyond = beyond_second D E W V why x t.taken u.before u.rest t.derives t.within u.beyond;
}

-- a second part within the limits behind each first one
pub record HasEach {A B : Type 0} (E : A → Lang B) (W : Bound A) (V : Limit → A → B → Type 0) : Type 0 where
  pub tree : A → B
  pub tokens : A → Tokens
  pub is : (x : A) → E x (tree x) (tokens x)
  pub known : (x : A) → AreSpellable (tokens x)
  pub within : (l : Limit) (x : A) → W l x → V l x (tree x)

beyond_first : {A B : Type 0} (D : Lang A) (E : A → Lang B) (W : Bound A) (V : Limit → A → B → Type 0) (why : Why)
    (before rest : Tokens) → HasEach E W V → Beyond D W before rest why
    → Beyond (After D E) (Limits W V) before rest why
beyond_first D E W V Unexpected before rest has b = tt
beyond_first D E W V (Over l) before rest has b = record {
  others = λ m n. (b.others m n, has.within m b.tree (b.others m n));
  next = b.next;
  later = b.later;
  rest_is = b.rest_is;
  tree = (b.tree, has.tree b.tree);
  after = b.after ++ has.tokens b.tree;
  known = AreKnown-append b.after (has.tokens b.tree) b.known (has.known b.tree);
  passes = b.passes;
  goes_on = record {
    front = before ++ (b.next ∷ b.after);
    back = has.tokens b.tree;
    parts =
        sym (append_assoc before (b.next ∷ b.after) (has.tokens b.tree));
    first = b.goes_on;
    second = has.is b.tree;
  };
}

lead_first : {A B : Type 0} (D : Lang A) (E : A → Lang B) (W : Bound A) (V : Limit → A → B → Type 0) {before : Tokens}
    → HasEach E W V → Lead D W before → Lead (After D E) (Limits W V) before
lead_first D E W V has u = record {
  start = u.start;
  ahead = u.ahead;
  parts = u.parts;
  leads = u.leads;
  tree = (u.tree, has.tree u.tree);
  more = u.more ++ has.tokens u.tree;
  goes = record {
    front = u.start ++ u.more;
    back = has.tokens u.tree;
    parts =
        sym (append_assoc u.start u.more (has.tokens u.tree));
    first = u.goes;
    second = has.is u.tree;
  };
  known = AreKnown-append u.more (has.tokens u.tree) u.known (has.known u.tree);
  within = λ l. (u.within l, has.within l u.tree (u.within l));
}

-- the first part stops, and the second is one of those
pub after_first : {A B : Type 0} {D : Lang A} {E : A → Lang B} {F G : Follow} {W : Bound A}
    (V : Limit → A → B → Type 0) {ts : Tokens} {why : Why} {left : ℕ} →
    AfterLinks E G F → HasEach E W V → Stopped D W F ts why left → Stopped (After D E) (Limits W V) G ts why left
after_first {A} {B} {D} {E} {F} {G} {W} V {ts} {why} {left} link has u = record {
  before = u.before;
  rest = u.rest;
  whole = u.whole;
  left_is = u.left_is;
  known = AreKnown-append u.more (has.tokens u.tree) u.known (has.known u.tree);
  tree = (u.tree, has.tree u.tree);
  more = u.more ++ has.tokens u.tree;
  no_end = u.no_end;
  goes = record {
    front = u.before ++ u.more;
    back = has.tokens u.tree;
    parts =
        sym (append_assoc u.before u.more (has.tokens u.tree));
    first = u.goes;
    second = has.is u.tree;
  };
  within = λ l. (u.within l, has.within (early l) u.tree (u.within l));
  lead = lead_first D E W V has u.lead;
  stuck = λ p us r other d e h f w.
      let e1 : d.front ++ (d.back ++ r) ≡ u.before ++ other = sym (append_assoc d.front d.back r)
      ∙ ap (λ l. l ++ r) (sym d.parts) ∙ e in
      u.stuck p.0 d.front (d.back ++ r) other d.first e1 h (link p.0 p.1 d.back r d.second f)
      (counts_by why (λ l v. v.0) w);
  beyond = beyond_first D E W V why u.before u.rest has u.beyond;
}

pub took_then : {A B : Type 0} {D : Lang A} {E : Lang B} {F G : Follow} {W : Bound A} (V : Limit → A → B → Type 0)
    {ts rest rest' : Tokens} {x : A} {y : B} →
    Links E G F → Took D W F ts x rest → Took E (λ l. V l x) G rest y rest'
    → Took (Both D E) (Limits W V) G ts (x, y) rest'
took_then {D = D} {E = E} {F = F} {G = G} V link t u = took_after {D = D} {E = λ x. E} {F = F} {G = G} V (λ x. link) t u

pub stopped_second : {A B : Type 0} {D : Lang A} {E : Lang B} {F G : Follow} {W : Bound A}
    (V : Limit → A → B → Type 0) {ts rest : Tokens} {x : A} {why : Why} {left : ℕ} →
    Links E G F → Took D W F ts x rest → Stopped E (λ l. V l x) G rest why left
    → Stopped (Both D E) (Limits W V) G ts why left
stopped_second {D = D} {E = E} {F = F} {G = G} V link t u = after_second {D = D} {E = λ x. E} {F = F} {G = G} V
    (λ x. link) t u

-- behind a first part that stops, the second may be any that is within the limits behind each first part
pub stopped_first_with : {A B : Type 0} {D : Lang A} {E : Lang B} {F G : Follow} {W : Bound A}
    (V : Limit → A → B → Type 0) {ts : Tokens} {why : Why} {left : ℕ} →
    Links E G F → (y : B) (us : Tokens) → E y us → AreSpellable us → ((l : Limit) (x : A) → W l x → V l x y)
    → Stopped D W F ts why left → Stopped (Both D E) (Limits W V) G ts why left
stopped_first_with {D = D} {E = E} {F = F} {G = G} V link y us e known fits u =
    after_first {D = D} {E = λ x. E} {F = F} {G = G} V (λ x. link)
    (record { tree = λ x. y; tokens = λ x. us; is = λ x. e; known = λ x. known; within = fits }) u

-- a tree within the limits
pub record Has {A : Type 0} (D : Lang A) (W : Bound A) : Type 0 where
  pub tree : A
  pub tokens : Tokens
  pub is : D tree tokens
  pub known : AreSpellable tokens
  pub within : IsWithinAll W tree

pub has_both : {A B : Type 0} {D : Lang A} {E : Lang B} {W : Bound A} {V : Bound B} → Has D W → Has E V
    → Has (Both D E) (Pair W V)
has_both a b = record {
  tree = (a.tree, b.tree);
  tokens = a.tokens ++ b.tokens;
  is =
      record { front = a.tokens; back = b.tokens; parts = refl; first = a.is; second = b.is };
  known =
      AreKnown-append a.tokens b.tokens a.known b.known;
  within = λ l. (a.within l, b.within l);
}

-- ---- by choice, and along what builds a tree

pub same_head : (us r taken other rest ts : Tokens) → us ++ r ≡ taken ++ other → head other ≡ head rest
    → ts ≡ taken ++ rest → head (us ++ r) ≡ head ts
same_head us r taken other rest ts e h w = ap head e ∙ head-append taken other rest h ∙ ap head (sym w)

-- the trees of D that begin as ts does are the ones that are built from those of E
abbrev pub Builds : {A B : Type 0} → Lang A → Lang B → Tokens → (B → A) → Type 0
Builds {A} {B} D E ts build = (y : A) (us r : Tokens) → D y us → head (us ++ r) ≡ head ts → (q : B) × (y ≡ build q)
    × E q us

pub record Along {A B : Type 0} (D : Lang A) (E : Lang B) (W : Bound A) (V : Bound B) (ts : Tokens) (build : B → A)
    : Type 0 where
  pub intro : (q : B) (us : Tokens) → E q us → D (build q) us
  pub cases : Builds D E ts build
  pub to : (q : B) (us : Tokens) → E q us → (l : Limit) → V l q → W l (build q)
  pub from : (q : B) (us : Tokens) → E q us → (l : Limit) → W l (build q) → V l q

pub beyond_as : {A B : Type 0} (D : Lang A) (E : Lang B) (W : Bound A) (V : Bound B) (build : B → A) (why : Why)
    (before rest : Tokens) →
    ((q : B) (us : Tokens) → E q us → D (build q) us)
    → ((q : B) (us : Tokens) → E q us → (l : Limit) → V l q → W l (build q)) → Beyond E V before rest why
    → Beyond D W before rest why
beyond_as D E W V build Unexpected before rest intro to b = tt
beyond_as D E W V build (Over l) before rest intro to b =
    record {
      others = λ m n. to b.tree (before ++ (b.next ∷ b.after)) b.goes_on m (b.others m n);
      next = b.next;
      later
          = b.later;
      rest_is = b.rest_is;
      tree = build b.tree;
      after = b.after;
      known = b.known;
      passes = b.passes;
      goes_on
          = intro b.tree (before ++ (b.next ∷ b.after)) b.goes_on;
    }

pub lead_as : {A B : Type 0} {D : Lang A} {E : Lang B} {W : Bound A} {V : Bound B} {before : Tokens} (build : B → A) →
    ((q : B) (us : Tokens) → E q us → D (build q) us)
    → ((q : B) (us : Tokens) → E q us → (l : Limit) → V l q → W l (build q)) → Lead E V before → Lead D W before
lead_as build intro to u = record {
  start = u.start;
  ahead = u.ahead;
  parts = u.parts;
  leads = u.leads;
  tree = build u.tree;
  more = u.more;
  goes = intro u.tree (u.start ++ u.more) u.goes;
  known = u.known;
  within = λ l. to u.tree (u.start ++ u.more) u.goes l (u.within l);
}

-- the trees of D that begin with these tokens and the next one are built from those of E, which G lets end here
abbrev pub BuildsOn : {A B : Type 0} → Lang A → Lang B → Follow → Follow → Tokens → Tokens → (B → A) → Type 0
BuildsOn {A} {B} D E F G taken rest build = (y : A) (us r other : Tokens) → D y us → us ++ r ≡ taken ++ other
    → head other ≡ head rest → F (head r) → (q : B) × (y ≡ build q) × E q us × G (head r)

pub took_on : {A B : Type 0} (D : Lang A) (E : Lang B) {W : Bound A} {V : Bound B} {F G : Follow} {ts rest : Tokens}
    {q : B} (build : B → A) →
    ((q : B) (us : Tokens) → E q us → D (build q) us)
    → ((q : B) (us : Tokens) → E q us → (l : Limit) → V l q → W l (build q)) →
    (t : Took E V G ts q rest) → BuildsOn D E F G t.taken rest build → Took D W F ts (build q) rest
took_on D E {q = q} build intro to t cases = record {
  taken = t.taken;
  whole = t.whole;
  no_end = t.no_end;
  derives = intro q t.taken t.derives;
  within = λ l. to q t.taken t.derives l (t.within l);
  only = λ y us r other d e h f.
      let p = cases y us r other d e h f in
      let o = t.only p.0 us r other p.2 e h p.3 in
      (p.1 ∙ ap build o.0, o.1);
}

pub stopped_on : {A B : Type 0} (D : Lang A) (E : Lang B) {W : Bound A} {V : Bound B} {F G : Follow} {ts : Tokens}
    {why : Why} {left : ℕ} (build : B → A) →
    ((q : B) (us : Tokens) → E q us → D (build q) us)
    → ((q : B) (us : Tokens) → E q us → (l : Limit) → V l q → W l (build q))
    → ((q : B) (us : Tokens) → E q us → (l : Limit) → W l (build q) → V l q) →
    (u : Stopped E V G ts why left) → BuildsOn D E F G u.before u.rest build → Stopped D W F ts why left
stopped_on {A} D E {W} {V} {F} {G} {ts} {why} build intro to from u cases = record {
  before = u.before;
  rest = u.rest;
  whole = u.whole;
  left_is = u.left_is;
  known = u.known;
  tree = build u.tree;
  more = u.more;
  no_end = u.no_end;
  goes = intro u.tree (u.before ++ u.more) u.goes;
  within = λ l. to u.tree (u.before ++ u.more) u.goes (early l) (u.within l);
  lead = lead_as build intro to u.lead;
  stuck = λ y us r other d e h f w.
      let p = cases y us r other d e h f in
      u.stuck p.0 us r other p.2 e h p.3
      (counts_by why (λ l v. let P : A → Type 0 = W l in from p.0 us p.2 l (subst P p.1 v)) w);
  beyond = beyond_as D E W V build why u.before u.rest intro to u.beyond;
}

-- the trees of D that begin as ts does, and may end, are built from those of E, which G lets end here
pub record When {A B : Type 0} (D : Lang A) (E : Lang B) (W : Bound A) (V : Bound B) (F G : Follow) (ts : Tokens)
    (build : B → A) : Type 0 where
  pub intro : (q : B) (us : Tokens) → E q us → D (build q) us
  pub cases : (y : A) (us r : Tokens) → D y us → head (us ++ r) ≡ head ts → F (head r) → (q : B) × (y ≡ build q)
      × E q us × G (head r)
  pub to : (q : B) (us : Tokens) → E q us → (l : Limit) → V l q → W l (build q)
  pub from : (q : B) (us : Tokens) → E q us → (l : Limit) → W l (build q) → V l q

pub took_when : {A B : Type 0} (D : Lang A) (E : Lang B) {W : Bound A} {V : Bound B} {F G : Follow} {ts rest : Tokens}
    {q : B} (build : B → A) →
    When D E W V F G ts build → Took E V G ts q rest → Took D W F ts (build q) rest
took_when D E {F = F} {ts = ts} {rest = rest} build a t =
    took_on D E {F = F} build a.intro a.to t
    (λ y us r other d e h f. a.cases y us r d (same_head us r t.taken other rest ts e h t.whole) f)

pub stopped_when : {A B : Type 0} (D : Lang A) (E : Lang B) {W : Bound A} {V : Bound B} {F G : Follow} {ts : Tokens}
    {why : Why} {left : ℕ} (build : B → A) →
    When D E W V F G ts build → Stopped E V G ts why left → Stopped D W F ts why left
stopped_when D E {F = F} {ts = ts} build a u =
    stopped_on D E {F = F} build a.intro a.to a.from u
    (λ y us r other d e h f. a.cases y us r d (same_head us r u.before other u.rest ts e h u.whole) f)

pub when_along : {A B : Type 0} {D : Lang A} {E : Lang B} {W : Bound A} {V : Bound B} (F : Follow) {ts : Tokens}
    {build : B → A} → Along D E W V ts build → When D E W V F F ts build
when_along F a = record {
  intro = a.intro;
  cases =
      λ y us r d h f. let p = a.cases y us r d h in (p.0, p.1, p.2, f);
  to = a.to;
  from = a.from;
}

pub took_as : {A B : Type 0} (D : Lang A) (E : Lang B) {W : Bound A} {V : Bound B} {F : Follow} {ts rest : Tokens}
    {q : B} (build : B → A) →
    Along D E W V ts build → Took E V F ts q rest → Took D W F ts (build q) rest
took_as D E {F = F} build a t = took_when D E build (when_along F a) t

pub stopped_as : {A B : Type 0} (D : Lang A) (E : Lang B) {W : Bound A} {V : Bound B} {F : Follow} {ts : Tokens}
    {why : Why} {left : ℕ} (build : B → A) →
    Along D E W V ts build → Stopped E V F ts why left → Stopped D W F ts why left
stopped_as D E {F = F} build a u = stopped_when D E build (when_along F a) u

-- what lets less follow
pub took_before : {A : Type 0} {D : Lang A} {W : Bound A} {F G : Follow} {ts rest : Tokens} {x : A}
    → ((o : Option Lexeme) → G o → F o) → Took D W F ts x rest → Took D W G ts x rest
took_before {D = D} {G = G} less t = took_on D D {F = G} (λ y. y) (λ q us d. d) (λ q us d l v. v) t
    (λ y us r other d e h f. (y, refl, d, less (head r) f))

pub stopped_before : {A : Type 0} {D : Lang A} {W : Bound A} {F G : Follow} {ts : Tokens} {why : Why} {left : ℕ}
    → ((o : Option Lexeme) → G o → F o) → Stopped D W F ts why left → Stopped D W G ts why left
stopped_before {D = D} {G = G} less u = stopped_on D D {F = G} (λ y. y) (λ q us d. d) (λ q us d l v. v)
    (λ q us d l v. v) u (λ y us r other d e h f. (y, refl, d, less (head r) f))

-- all tokens begin a tree within all limits
pub lead_here : {A : Type 0} {D : Lang A} {W : Bound A} (before : Tokens) (x : A) (more : Tokens)
    → D x (before ++ more) → AreSpellable more → IsWithinAll W x → Lead D W before
lead_here before x more goes known within = record {
  start = before;
  ahead = [];
  parts = sym (append-nil before);
  leads = tt;
  tree = x;
  more = more;
  goes = goes;
  known = known;
  within = within;
}

-- each tree that begins here is over the limit
pub over_here : {A : Type 0} {D : Lang A} {W : Bound A} {F : Follow} {ts : Tokens} (why : Why) → Has D W →
    ((y : A) (us r : Tokens) → D y us → head (us ++ r) ≡ head ts → Counts why (λ l. W l y) → ⊥) → Beyond D W [] ts why
    → Stopped D W F ts why (length ts)
over_here {ts = ts} why x none beyond = record {
  before = [];
  rest = ts;
  whole = refl;
  left_is = refl;
  known = x.known;
  tree = x.tree;
  more = x.tokens;
  no_end = tt;
  goes = x.is;
  within = λ l. x.within (early l);
  lead = lead_here [] x.tree x.tokens x.is x.known x.within;
  stuck = λ y us r other d e h f w. none y us r d (ap head e ∙ h) w;
  beyond = beyond;
}

-- no tree of D begins as ts does
pub stopped_here : {A : Type 0} {D : Lang A} {W : Bound A} {F : Follow} {ts : Tokens} → Has D W →
    ((y : A) (us r : Tokens) → D y us → head (us ++ r) ≡ head ts → ⊥) → Stopped D W F ts Unexpected (length ts)
stopped_here x none = over_here Unexpected x (λ y us r d h w. none y us r d h) tt

abbrev pub NoneAt : {A : Type 0} → Lang A → Tokens → Type 0
NoneAt {A} D rest = (y : A) (us r : Tokens) → D y us → head (us ++ r) ≡ head rest → ⊥

-- nothing is taken
pub took_nothing : {A : Type 0} (D : Lang A) (W : Bound A) (F : Follow) (ts : Tokens) (x : A) → D x []
    → IsWithinAll W x →
    ((y : A) (us r : Tokens) → D y us → head (us ++ r) ≡ head ts → F (head r) → (y ≡ x) × (us ≡ []))
    → Took D W F ts x ts
took_nothing D W F ts x d w single = record {
  taken = [];
  whole = refl;
  derives = d;
  within = w;
  no_end = tt;
  only = λ y us r other m e h f. let p = single y us r m (ap head e ∙ h) f in (p.0, ap (λ l. l ++ r) (sym p.1) ∙ e);
}

-- ---- one token

abbrev pub nowhere : Spot
nowhere = record { line = 0; col = 0 }

abbrev pub at_once : Lexical → Tokens
at_once k = record { kind = k; at = nowhere } ∷ []

-- the kind of a first token
pub first_kind : (k : Lexical) (at : Spot) (us r ts rest : Tokens) (t : Lexeme) → us ≡ record { kind = k; at = at }
    ∷ [] → head (us ++ r) ≡ head ts → ts ≡ t ∷ rest → t.kind ≡ k
first_kind k at us r ts rest t d h e =
    let same : Some (record { kind = k; at = at }) ≡ Some t = sym (ap (λ l. head (l ++ r)) d) ∙ h ∙ ap head e in
    let is : t ≡ record { kind = k; at = at } = cc in
    ap (λ (l : Lexeme). l.kind) is

pub no_first : (k : Lexical) (at : Spot) (us r ts : Tokens) → us ≡ record { kind = k; at = at } ∷ []
    → head (us ++ r) ≡ head ts → ts ≡ [] → ⊥
no_first k at us r ts d h e = let no : Some (record { kind = k; at = at }) ≡ None = sym (ap (λ l. head (l ++ r)) d)
    ∙ h ∙ ap head e in cc

pub has_token : (k : Lexical) → IsKnown k → Has (Token k) Free
has_token k known = record { tree = nowhere; tokens = at_once k; is = refl; known = (known, tt); within = λ l. tt }

pub has_mark : (k : Lexical) → IsKnown k → Has (TokenMark k) Free
has_mark k known = record { tree = tt; tokens = at_once k; is = (nowhere, refl); known = (known, tt); within = λ l. tt }

pub token_end : (k : Lexical) → IsKnown k → (F : Follow) (ts : Tokens) → ts ≡ []
    → Stopped (Token k) Free F ts Unexpected (length ts)
token_end k known F ts e = stopped_here (has_token k known) (λ y us r d h. no_first k y us r ts d h e)

pub token_other : (k : Lexical) → IsKnown k → (F : Follow) (ts : Tokens) (t : Lexeme) (rest : Tokens) → ts ≡ t ∷ rest
    → (t.kind ≡ k → ⊥) → Stopped (Token k) Free F ts Unexpected (length ts)
token_other k known F ts t rest e other = stopped_here (has_token k known)
    (λ y us r d h. other (first_kind k y us r ts rest t d h e))

-- a token that names its tree
pub took_token : {A : Type 0} (f : A → Lexeme) → ((x y : A) → f y ≡ f x → y ≡ x) → (ts rest : Tokens) (x : A)
    → ((f x).kind ≡ End → ⊥) → ts ≡ f x ∷ rest → Took (λ y us. us ≡ f y ∷ []) Free Always ts x rest
took_token f inj ts rest x not_end e = record {
  taken = f x ∷ [];
  whole = e;
  derives = refl;
  within = λ l. tt;
  no_end = (not_end, tt);
  only = λ y us r other d w h u.
      let all : f y ∷ r ≡ f x ∷ other = sym (ap (λ l. l ++ r) d) ∙ w in
      let heads : f y ≡ f x = cc in
      (inj x y heads, cc);
}

pub took_kind : (k : Lexical) (ts rest : Tokens) (t : Lexeme) → (k ≡ End → ⊥) → ts ≡ t ∷ rest → t.kind ≡ k
    → Took (Token k) Free Always ts t.at rest
took_kind k ts rest t not_end e is =
    let f : Spot → Lexeme = λ at. record { kind = k; at = at } in
    let same : t ≡ f t.at = ap (λ k. record { kind = k; at = t.at }) is
    in took_token f (λ x y p. ap (λ (l : Lexeme). l.at) p) ts rest t.at not_end (e ∙ ap (λ l. l ∷ rest) same)

pub mark_along : (k : Lexical) (ts : Tokens) → Along (TokenMark k) (Token k) Free Free ts (λ at. tt)
mark_along k ts = record {
  intro = λ at us d. (at, d);
  cases = λ y us r d h. (d.0, refl, d.1);
  to =
      λ q us d l v. v;
  from = λ q us d l v. v;
}

pub took_mark : {k : Lexical} {F : Follow} {ts rest : Tokens} {at : Spot} → Took (Token k) Free F ts at rest
    → Took (TokenMark k) Free F ts tt rest
took_mark {k} {F} {ts} t = took_as (TokenMark k) (Token k) (λ at. tt) (mark_along k ts) t

pub stopped_mark : {k : Lexical} {F : Follow} {ts : Tokens} {why : Why} {left : ℕ}
    → Stopped (Token k) Free F ts why left → Stopped (TokenMark k) Free F ts why left
stopped_mark {k} {F} {ts} t = stopped_as (TokenMark k) (Token k) (λ at. tt) (mark_along k ts) t

-- ---- failures

fails_by : {A B : Type 0} {D : Lang A} {E : Lang B} {W : Bound A} {V : Bound B} {F G : Follow} {ts us : Tokens}
    → ((why : Why) (left : ℕ) → Stopped D W F ts why left → Stopped E V G us why left) → (e : Fail) → Fails D W F ts e
    → Fails E V G us e
fails_by f (Refused why left) s = f why left s
fails_by f Memory s = tt

pub failed_by : {A B : Type 0} {D : Lang A} {E : Lang B} {W : Bound A} {V : Bound B} {F G : Follow} {ts us : Tokens}
    {e : Fail} → ((why : Why) (left : ℕ) → Stopped D W F ts why left → Stopped E V G us why left) → Failed D W F ts e
    → Failed E V G us e
failed_by {A} {B} {D} {E} {W} {V} {F} {G} {ts} {us} {e} f s =
    record { why = fails_by {D = D} {E = E} {W = W} {V = V} {F = F} {G = G} {ts = ts} {us = us} f e s.why }

-- the first part fails
pub first : {A B : Type 0} {D : Lang A} {E : Lang B} {W : Bound A} {V : Bound B} {F G : Follow} {ts : Tokens}
    {e : Fail} → Links E G F → Has E V → Failed D W F ts e → Failed (Both D E) (Pair W V) G ts e
first {V = V} link h f = failed_by
    (λ why left s. stopped_first_with (λ l x. V l) link h.tree h.tokens h.is h.known (λ l x w. h.within l) s) f

-- the first part was read, and the second fails
pub second : {A B : Type 0} {D : Lang A} {E : Lang B} {W : Bound A} {V : Bound B} {F G : Follow} {ts rest : Tokens}
    {x : A} {e : Fail} → Links E G F → Took D W F ts x rest → Failed E V G rest e
    → Failed (Both D E) (Pair W V) G ts e
second {V = V} link t f = failed_by (λ why left s. stopped_second (λ l x. V l) link t s) f

-- both were read
pub both : {A B : Type 0} {D : Lang A} {E : Lang B} {W : Bound A} {V : Bound B} {F G : Follow}
    {ts rest rest' : Tokens} {x : A} {y : B} → Links E G F → Took D W F ts x rest → Took E V G rest y rest'
    → Took (Both D E) (Pair W V) G ts (x, y) rest'
both {V = V} link t u = took_then (λ l x. V l) link t u

pub failed_mark : {k : Lexical} {F : Follow} {ts : Tokens} {e : Fail} → Failed (Token k) Free F ts e
    → Failed (TokenMark k) Free F ts e
failed_mark f = failed_by (λ why left s. stopped_mark s) f

pub failed_as : {A B : Type 0} (D : Lang A) (E : Lang B) {W : Bound A} {V : Bound B} {F : Follow} {ts : Tokens}
    {e : Fail} (build : B → A) → Along D E W V ts build → Failed E V F ts e → Failed D W F ts e
failed_as D E build a f = failed_by (λ why left s. stopped_as D E build a s) f

pub failed_when : {A B : Type 0} (D : Lang A) (E : Lang B) {W : Bound A} {V : Bound B} {F G : Follow} {ts : Tokens}
    {e : Fail} (build : B → A) →
    When D E W V F G ts build → Failed E V G ts e → Failed D W F ts e
failed_when D E build a f = failed_by (λ why left s. stopped_when D E build a s) f

pub failed_before : {A : Type 0} {D : Lang A} {W : Bound A} {F G : Follow} {ts : Tokens} {e : Fail}
    → ((o : Option Lexeme) → G o → F o) → Failed D W F ts e → Failed D W G ts e
failed_before less f = failed_by (λ why left s. stopped_before less s) f

-- any token may follow
pub free : {B : Type 0} (E : Lang B) (G : Follow) → Links E G Always
free E G = λ y us r e f. tt

-- what the exit of a `?` returns, where its error is passed on
pub exits : {T A : Type 0} (show : T → A) (E : Lang A) (V : Bound A) (G : Follow) (us : Tokens)
    (r : Result (T × Bor Tokens) Fail) (e : Fail) →
    Failed E V G us e → IsErrAnd r (λ y. y ≡ e) → Reads show E V G us r
exits show E V G us (Ok x) e f h = absurd h
exits show E V G us (Err y) e f h = let P : Fail → Type 0 = Failed E V G us in subst P (sym h) f

-- a call whose answer is returned as it is
pub passes : {T A : Type 0} (show : T → A) (D E : Lang A) (W V : Bound A) (F G : Follow) (ts us : Tokens)
    (r : Result (T × Bor Tokens) Fail) →
    ((x : A) (rest : Tokens) → Took D W F ts x rest → Took E V G us x rest)
    → ((e : Fail) → Failed D W F ts e → Failed E V G us e) → Reads show D W F ts r → Reads show E V G us r
passes show D E W V F G ts us (Ok x) f g s = f (show x.0) x.1.now s
passes show D E W V F G ts us (Err e) f g s = g e s

-- no more tokens are left than there were
pub took_shorter : {A : Type 0} {D : Lang A} {W : Bound A} {F : Follow} {ts rest : Tokens} {x : A}
    → Took D W F ts x rest → length rest ≤ length ts
took_shorter {rest = rest} t = omega (arith, ap length t.whole, length-append t.taken rest)

pub lengths : (us a b : Tokens) → us ≡ a ++ b → length us ≡ length a + length b
lengths us a b e = ap length e ∙ length-append a b

-- a token is one of those that were there
pub token_smaller : (k : Lexical) (F : Follow) (ts rest : Tokens) (at : Spot) → Took (Token k) Free F ts at rest
    → length rest < length ts
token_smaller k F ts rest at s = omega (arith, ap length s.whole, length-append s.taken rest, ap length s.derives)

-- so is the mark that a part begins with
pub mark_smaller : {A : Type 0} (k : Lexical) (E : Lang A) (W : Bound A) (F : Follow) (ts rest : Tokens) (x : A)
    → Took (λ y. one_token k ⨾ E y) W F ts x rest → length rest < length ts
mark_smaller k E W F ts rest x s =
    omega (
      arith,
      ap length s.whole,
      length-append s.taken rest,
      ap length s.derives.parts,
      length-append s.derives.front s.derives.back,
      ap length s.derives.first.1,
    )

-- the next token is refused
pub refuses : {T A : Type 0} (show : T → A) (D : Lang A) (W : Bound A) (F : Follow) (ts : Tokens)
    (r : Result (T × Bor Tokens) Fail) {why : Why} {left : ℕ} →
    r ≡ Err (Refused why left) → Stopped D W F ts why left → Reads show D W F ts r
refuses {T} show D W F ts r e s = let P : Result (T × Bor Tokens) Fail
    → Type 0 = Reads show D W F ts in subst P (sym e) (record { why = s })

-- ---- names

abbrev pub io_name : NameAt
io_name = record { name = io; at = nowhere }

pub has_name : Has name Free
has_name = record { tree = io_name; tokens = at_once (Name io); is = refl; known = (refl, tt); within = λ l. tt }

pub name_end : (F : Follow) (ts : Tokens) → ts ≡ [] → Stopped name Free F ts Unexpected (length ts)
name_end F ts e = stopped_here has_name (λ y us r d h. no_first (Name y.name) y.at us r ts d h e)

pub name_other : (F : Follow) (ts : Tokens) (t : Lexeme) (rest : Tokens) → ts ≡ t ∷ rest
    → ((n : ℕ) → t.kind ≡ Name n → ⊥) → Stopped name Free F ts Unexpected (length ts)
name_other F ts t rest e other = stopped_here has_name
    (λ y us r d h. other y.name (first_kind (Name y.name) y.at us r ts rest t d h e))

abbrev pub name_token : NameAt → Lexeme
name_token x = record { kind = Name x.name; at = x.at }

pub name_of_token : (x y : NameAt) → name_token y ≡ name_token x → y ≡ x
name_of_token x y p =
    let at : y.at ≡ x.at = ap (λ (l : Lexeme). l.at) p in
    let k : Name y.name ≡ Name x.name = ap (λ (l : Lexeme). l.kind) p in
    let v : y.name ≡ x.name = cc in
    ap (λ a. record { name = a; at = y.at }) v ∙ ap (λ b. record { name = x.name; at = b }) at

pub took_name : (ts rest : Tokens) (t : Lexeme) (n : ℕ) → ts ≡ t ∷ rest → t.kind ≡ Name n
    → Took name Free Always ts (record { name = n; at = t.at }) rest
took_name ts rest t n e is =
    let same : t ≡ name_token (record { name = n; at = t.at }) = ap (λ k. record { kind = k; at = t.at }) is in
    took_token name_token name_of_token ts rest (record { name = n; at = t.at }) (λ q. cc) (e ∙ ap (λ l. l ∷ rest) same)
