-- Items one after another, where what an item is depends on those before it.
use Rattle.std.proofs.Common.{◌≡◌, ℕ, ◌++◌, List, [], ◌∷◌, length, Option, refl, sym, ap, ◌∙◌, append_assoc}
use Rattle.std.proofs.Common.{append-nil, subst}
use Rattle.ae_tree.specs.declared.limits.Limit.{Limit}
use Rattle.ae_tree.specs.declared.lexeme.Lexeme.{Lexeme}
use Rattle.ae_tree.specs.Limits.{early}
use Rattle.ae_tree.specs.Grammar.{Tokens}
use Rattle.ae_reading.specs.declared.fail.Fail.{Fail}
use Rattle.ae_reading.specs.declared.fail.Why.{Why}
use Rattle.ae_reading.specs.declared.fail.Why.TheVariants.{Unexpected, Over}
use Rattle.ae_reading.specs.Reads.{head, EndIsNone, IsWithinAll, Took, Lead, Stopped, Failed, Counts, Beyond, chain}
use Rattle.ae_reading.specs.Reads.{state_after}
use Rattle.ae_reading.proofs.ReadsLemmas.{Lang, Bound, Follow, Links, head-append, NoEnd-append, counts_by}
use Rattle.ae_reading.proofs.ReadsLemmas.{lead_here, failed_by, NoneAt}
use Rattle.ae_reading.proofs.Begins.{Begins}

-- The items xs were read. All that begins so begins with these items.
pub record Chain {S A : Type 0} (D : S → Lang A) (next : S → A → S) (V : Bound (List A)) (F : Follow) (s : S)
    (ts : Tokens) (xs : List A) (rest : Tokens) : Type 0 where
  pub taken : Tokens
  pub whole : ts ≡ taken ++ rest
  pub derives : chain D next s xs taken
  pub within : IsWithinAll V xs
  pub no_end : EndIsNone taken
  pub only : (ys : List A) (us r other : Tokens) → chain D next s ys us → us ++ r ≡ taken ++ other
      → head other ≡ head rest → F (head r) →
      (zs : List A) × (vs : Tokens) × (ys ≡ xs ++ zs) × chain D next (state_after next s xs) zs vs × (vs ++ r ≡ other)

pub after-append : {S A : Type 0} (next : S → A → S) (s : S) (xs zs : List A) → state_after next s (xs ++ zs)
    ≡ state_after next (state_after next s xs) zs
after-append next s [] zs = refl
after-append next s (x ∷ xs) zs = after-append next (next s x) xs zs

pub chain-append : {S A : Type 0} (D : S → Lang A) (next : S → A → S) (s : S) (xs zs : List A) (a b : Tokens)
    → chain D next s xs a → chain D next (state_after next s xs) zs b → chain D next s (xs ++ zs) (a ++ b)
chain-append D next s [] zs a b m n = let P : Tokens → Type 0 = λ l. chain D next s zs (l ++ b) in subst P (sym m) n
chain-append D next s (x ∷ xs) zs a b m n = record {
  front = m.front;
  back = m.back ++ b;
  parts = ap (λ l. l ++ b) m.parts ∙ append_assoc m.front m.back b;
  first = m.first;
  second = chain-append D next (next s x) xs zs m.back b m.second n;
}

pub chain-one : {S A : Type 0} (D : S → Lang A) (next : S → A → S) (s : S) (x : A) (a : Tokens) → D s x a
    → chain D next s (x ∷ []) a
chain-one D next s x a d = record { front = a; back = []; parts = sym (append-nil a); first = d; second = refl }

pub chain_start : {S A : Type 0} (D : S → Lang A) (next : S → A → S) (V : Bound (List A)) (F : Follow) (s : S)
    (ts : Tokens) → IsWithinAll V [] → Chain D next V F s ts [] ts
chain_start D next V F s ts v = record {
  taken = [];
  whole = refl;
  derives = refl;
  within = v;
  no_end = tt;
  only = λ ys us r other m e h f. (ys, us, refl, m, e);
}

-- what the items after it and the end let follow lets an item end
abbrev pub ChainTurns : {S A : Type 0} → (S → Lang A) → (S → A → S) → Follow → Follow → Type 0
ChainTurns {S} {A} D next F G = (s : S) (zs : List A) (vs r : Tokens) → chain D next s zs vs → F (head r)
    → G (head (vs ++ r))

-- the first token behind some of the items, or none of them
pub chain_turns : {S A : Type 0} (D : S → Lang A) (next : S → A → S) (F G : Follow) → ((s : S) → Begins (D s) G)
    → ((o : Option Lexeme) → F o → G o) → (s : S) → Links (chain D next s) F G
chain_turns D next F G begin inside s [] us r d f = let P : Tokens → Type 0 =
    λ l. G (head (l ++ r)) in subst P (sym d) (inside (head r) f)
chain_turns D next F G begin inside s (x ∷ xs) us r d f =
    let P : Tokens → Type 0 = λ l. G (head l) in
    subst P (sym (append_assoc d.front d.back r) ∙ ap (λ l. l ++ r) (sym d.parts))
    (begin s x d.front (d.back ++ r) d.first)

chain_end_next : {S A : Type 0} (D : S → Lang A) (next : S → A → S) (s : S) (rest : Tokens) → NoneAt (D s) rest →
    (zs : List A) (vs r other : Tokens) → chain D next s zs vs → vs ++ r ≡ other → head other ≡ head rest
    → (zs ≡ []) × (r ≡ other)
chain_end_next D next s rest none [] vs r other m e h = (refl, ap (λ l. l ++ r) (sym m) ∙ e)
chain_end_next D next s rest none (z ∷ zs) vs r other m e h =
    absurd (none z m.front (m.back ++ r) m.first
    (ap head (sym (append_assoc m.front m.back r) ∙ ap (λ l. l ++ r) (sym m.parts) ∙ e) ∙ h))

chain_stopped_next : {S A : Type 0} (D : S → Lang A) (next : S → A → S) (s : S) (V : Bound (List A)) (W : Bound A)
    (F G : Follow) {rest : Tokens} {why : Why} {left : ℕ} (xs : List A) →
    ChainTurns D next F G → (F (head rest) → ⊥) → ((l : Limit) (z : A) (zs : List A) → V l (xs ++ z ∷ zs) → W l z)
    → (u : Stopped (D s) W G rest why left) →
    (zs : List A) (vs r other : Tokens) → chain D next s zs vs → vs ++ r ≡ u.before ++ other
    → head (u.before ++ other) ≡ head rest → head other ≡ head u.rest → F (head r)
    → Counts why (λ l. V l (xs ++ zs)) → ⊥
chain_stopped_next D next s V W F G {rest} {why} xs link goes_on back u [] vs r other m e h1 h f w =
    let P : Option Lexeme → Type 0 = F in goes_on (subst P (ap head (ap (λ l. l ++ r) (sym m) ∙ e) ∙ h1) f)
chain_stopped_next D next s V W F G {rest} {why} xs link goes_on back u (z ∷ zs) vs r other m e h1 h f w =
    u.stuck z m.front (m.back ++ r) other m.first
    (sym (append_assoc m.front m.back r) ∙ ap (λ l. l ++ r) (sym m.parts) ∙ e) h
    (link (next s z) zs m.back r m.second f) (counts_by why (λ l. back l z zs) w)

chain_next : {S A : Type 0} (D : S → Lang A) (next : S → A → S) (s : S) (W : Bound A) (F G : Follow)
    {rest rest' : Tokens} (xs : List A) {x : A} →
    ChainTurns D next F G → (F (head rest) → ⊥) → (u : Took (D (state_after next s xs)) W G rest x rest') →
    (zs : List A) (vs r other : Tokens) → chain D next (state_after next s xs) zs vs → vs ++ r ≡ u.taken ++ other
    → head (u.taken ++ other) ≡ head rest → head other ≡ head rest' → F (head r) →
    (ys : List A) → ys ≡ xs ++ zs → (zs : List A) × (vs : Tokens) × (ys ≡ (xs ++ x ∷ []) ++ zs)
    × chain D next (state_after next s (xs ++ x ∷ [])) zs vs × (vs ++ r ≡ other)
chain_next D next s W F G {rest} xs link goes_on u [] vs r other m e h1 h f ys w =
    let P : Option Lexeme → Type 0 = F in absurd (goes_on (subst P (ap head (ap (λ l. l ++ r) (sym m) ∙ e) ∙ h1) f))
chain_next {S} {A} D next s W F G {rest} {rest'} xs {x} link goes_on u (z ∷ zs) vs r other m e h1 h f ys w =
    let o = u.only z m.front (m.back ++ r) other m.first
    (sym (append_assoc m.front m.back r) ∙ ap (λ l. l ++ r) (sym m.parts) ∙ e) h
    (link (next (state_after next s xs) z) zs m.back r m.second f) in
    let behind : next (state_after next s xs) z ≡ state_after next s (xs ++ x ∷ []) =
    ap (λ a. next (state_after next s xs) a) o.0 ∙ sym (after-append next s xs (x ∷ [])) in
    let P : S → Type 0 = λ a. chain D next a zs m.back in
    (zs, m.back, w ∙ ap (λ a. xs ++ a ∷ zs) o.0 ∙ sym (append_assoc xs (x ∷ []) zs), subst P behind m.second, o.1)

pub chain_more : {S A : Type 0} {D : S → Lang A} {next : S → A → S} {V : Bound (List A)} {W : Bound A} {F G : Follow}
    {s : S} {ts rest rest' : Tokens} {xs : List A} {x : A} →
    ChainTurns D next F G → (F (head rest) → ⊥) → IsWithinAll V (xs ++ x ∷ []) → Chain D next V F s ts xs rest
    → Took (D (state_after next s xs)) W G rest x rest' → Chain D next V F s ts (xs ++ x ∷ []) rest'
chain_more {S} {A} {D} {next} {V} {W} {F} {G} {s} {ts} {rest} {rest'} {xs} {x} link goes_on v t u = record {
  taken = t.taken ++ u.taken;
  whole = t.whole ∙ ap (λ l. t.taken ++ l) u.whole ∙ sym (append_assoc t.taken u.taken rest');
  no_end = NoEnd-append t.taken u.taken t.no_end u.no_end;
  derives = chain-append D next s xs (x ∷ []) t.taken u.taken t.derives
      (chain-one D next (state_after next s xs) x u.taken u.derives);
  within = v;
  only = λ ys us r other m e h f.
      let e1 : us ++ r ≡ t.taken ++ (u.taken ++ other) = e ∙ append_assoc t.taken u.taken other in
      let h1 : head (u.taken ++ other) ≡ head rest = head-append u.taken other rest' h ∙ ap head (sym u.whole) in
      let p = t.only ys us r (u.taken ++ other) m e1 h1 f
      in chain_next D next s W F G xs link goes_on u p.0 p.1 r other p.3 p.4 h1 h f ys p.2;
}

pub chain_beyond : {S A : Type 0} (D : S → Lang A) (next : S → A → S) (s : S) (V : Bound (List A)) (W : Bound A)
    (why : Why) (xs : List A) (taken before rest : Tokens) →
    ((l : Limit) (z : A) → W l z → V l (xs ++ z ∷ [])) → chain D next s xs taken
    → Beyond (D (state_after next s xs)) W before rest why → Beyond (chain D next s) V (taken ++ before) rest why
chain_beyond D next s V W Unexpected xs taken before rest fits m b = tt
chain_beyond D next s V W (Over l) xs taken before rest fits m b = record {
  others = λ k n. fits k b.tree (b.others k n);
  next = b.next;
  later = b.later;
  rest_is = b.rest_is;
  tree = xs ++ b.tree ∷ [];
  after = b.after;
  known = b.known;
  passes = b.passes;
  goes_on = let P : Tokens → Type 0 = λ l. chain D next s (xs ++ b.tree ∷ []) l in
      subst P (sym (append_assoc taken before (b.next ∷ b.after)))
      (chain-append D next s xs (b.tree ∷ []) taken (before ++ (b.next ∷ b.after)) m
      (chain-one D next (state_after next s xs) b.tree (before ++ (b.next ∷ b.after)) b.goes_on));
}

chain_lead : {S A : Type 0} {D : S → Lang A} {next : S → A → S} {V : Bound (List A)} {W : Bound A} {s : S}
    (xs : List A) (taken before : Tokens) →
    ((l : Limit) (z : A) → W l z → V l (xs ++ z ∷ [])) → chain D next s xs taken
    → Lead (D (state_after next s xs)) W before → Lead (chain D next s) V (taken ++ before)
chain_lead {D = D} {next} {s = s} xs taken before fits m u = record {
  start = taken ++ u.start;
  ahead = u.ahead;
  parts = ap (λ l. taken ++ l) u.parts ∙ sym (append_assoc taken u.start u.ahead);
  leads = u.leads;
  tree = xs ++ u.tree ∷ [];
  more = u.more;
  goes = let P : Tokens → Type 0 = λ l. chain D next s (xs ++ u.tree ∷ []) l in
      subst P (sym (append_assoc taken u.start u.more))
      (chain-append D next s xs (u.tree ∷ []) taken (u.start ++ u.more) m
      (chain-one D next (state_after next s xs) u.tree (u.start ++ u.more) u.goes));
  known = u.known;
  within = λ l. fits l u.tree (u.within l);
}

-- an item stops
pub chain_stopped : {S A : Type 0} {D : S → Lang A} {next : S → A → S} {V : Bound (List A)} {W : Bound A}
    {F G : Follow} {s : S} {ts rest : Tokens} {xs : List A} {why : Why} {left : ℕ} →
    ChainTurns D next F G → (F (head rest) → ⊥) → ((l : Limit) (z : A) → W l z → V l (xs ++ z ∷ []))
    → ((l : Limit) (z : A) (zs : List A) → V l (xs ++ z ∷ zs) → W l z) →
    Chain D next V F s ts xs rest → Stopped (D (state_after next s xs)) W G rest why left
    → Stopped (chain D next s) V F ts why left
chain_stopped {S} {A} {D} {next} {V} {W} {F} {G} {s} {ts} {rest} {xs} {why} {left} link goes_on fits back t u = record {
  before = t.taken ++ u.before;
  rest = u.rest;
  whole = t.whole ∙ ap (λ l. t.taken ++ l) u.whole ∙ sym (append_assoc t.taken u.before u.rest);
  left_is = u.left_is;
  known = u.known;
  tree = xs ++ u.tree ∷ [];
  more = u.more;
  no_end = NoEnd-append t.taken u.before t.no_end u.no_end;
  goes = let P : Tokens → Type 0 = λ l. chain D next s (xs ++ u.tree ∷ []) l in
      subst P (sym (append_assoc t.taken u.before u.more))
      (chain-append D next s xs (u.tree ∷ []) t.taken (u.before ++ u.more) t.derives
      (chain-one D next (state_after next s xs) u.tree (u.before ++ u.more) u.goes));
  within = λ l. fits (early l) u.tree (u.within l);
  lead = chain_lead xs t.taken u.before fits t.derives u.lead;
  stuck = λ ys us r other m e h f w.
      let e1 : us ++ r ≡ t.taken ++ (u.before ++ other) = e ∙ append_assoc t.taken u.before other in
      let h1 : head (u.before ++ other) ≡ head rest = head-append u.before other u.rest h ∙ ap head (sym u.whole) in
      let p = t.only ys us r (u.before ++ other) m e1 h1 f
      in chain_stopped_next D next (state_after next s xs) V W F G xs link goes_on back u p.0 p.1 r other p.3 p.4 h1 h f
      (counts_by why (λ l v. let P : List A → Type 0 = V l in subst P p.2 v) w);
  beyond = chain_beyond D next s V W why xs t.taken u.before u.rest fits t.derives u.beyond;
}

pub chain_failed : {S A : Type 0} {D : S → Lang A} {next : S → A → S} {V : Bound (List A)} {W : Bound A}
    {F G : Follow} {s : S} {ts rest : Tokens} {xs : List A} {e : Fail} →
    ChainTurns D next F G → (F (head rest) → ⊥) → ((l : Limit) (z : A) → W l z → V l (xs ++ z ∷ []))
    → ((l : Limit) (z : A) (zs : List A) → V l (xs ++ z ∷ zs) → W l z) →
    Chain D next V F s ts xs rest → Failed (D (state_after next s xs)) W G rest e → Failed (chain D next s) V F ts e
chain_failed link goes_on fits back t f = failed_by (λ why left u. chain_stopped link goes_on fits back t u) f

chain_no_item : {S A : Type 0} (D : S → Lang A) (next : S → A → S) (s : S) (V : Bound (List A)) (F : Follow)
    (rest : Tokens) (why : Why) (xs : List A) → (F (head rest) → ⊥) →
    ((z : A) (zs : List A) (us r : Tokens) → D s z us → head (us ++ r) ≡ head rest
    → Counts why (λ l. V l (xs ++ z ∷ zs)) → ⊥) →
    (zs : List A) (vs r other : Tokens) → chain D next s zs vs → vs ++ r ≡ other → head other ≡ head rest → F (head r)
    → Counts why (λ l. V l (xs ++ zs)) → ⊥
chain_no_item D next s V F rest why xs goes_on none [] vs r other m e h f w =
    let P : Option Lexeme → Type 0 = F in goes_on (subst P (ap head (ap (λ l. l ++ r) (sym m) ∙ e) ∙ h) f)
chain_no_item D next s V F rest why xs goes_on none (z ∷ zs) vs r other m e h f w =
    none z zs m.front (m.back ++ r) m.first
    (ap head (sym (append_assoc m.front m.back r) ∙ ap (λ l. l ++ r) (sym m.parts) ∙ e) ∙ h) w

-- no item can come next: none begins so, or each is over the limit
pub chain_full : {S A : Type 0} {D : S → Lang A} {next : S → A → S} {V : Bound (List A)} {F : Follow} {s : S}
    {ts rest : Tokens} {xs : List A} (why : Why) →
    (F (head rest) → ⊥) → ((z : A) (zs : List A) (us r : Tokens) → D (state_after next s xs) z us
    → head (us ++ r) ≡ head rest → Counts why (λ l. V l (xs ++ z ∷ zs)) → ⊥) →
    Beyond (D (state_after next s xs)) (λ l z. V l (xs ++ z ∷ [])) [] rest why → Chain D next V F s ts xs rest
    → Stopped (chain D next s) V F ts why (length rest)
chain_full {S} {A} {D} {next} {V} {F} {s} {ts} {rest} {xs} why goes_on none beyond t = record {
  before = t.taken;
  rest = rest;
  whole = t.whole;
  left_is = refl;
  known = tt;
  tree = xs;
  more = [];
  no_end = t.no_end;
  goes = let P : Tokens → Type 0 = λ l. chain D next s xs l in subst P (sym (append-nil t.taken)) t.derives;
  within = λ l. t.within (early l);
  lead = lead_here t.taken xs []
      (let P : Tokens → Type 0 = λ l. chain D next s xs l in subst P (sym (append-nil t.taken)) t.derives) tt
      t.within;
  stuck = λ ys us r other m e h f w.
      let p = t.only ys us r other m e h f
      in chain_no_item D next (state_after next s xs) V F rest why xs goes_on none p.0 p.1 r other p.3 p.4 h f
      (counts_by why (λ l v. let P : List A → Type 0 = V l in subst P p.2 v) w);
  beyond = let P : Tokens → Type 0 = λ l. Beyond (chain D next s) V l rest why in subst P (append-nil t.taken)
      (chain_beyond D next s V (λ l z. V l (xs ++ z ∷ [])) why xs t.taken [] rest (λ l z v. v) t.derives beyond);
}

pub chain_end : {S A : Type 0} {D : S → Lang A} {next : S → A → S} {V : Bound (List A)} {F : Follow} {s : S}
    {ts rest : Tokens} {xs : List A} →
    NoneAt (D (state_after next s xs)) rest → Chain D next V F s ts xs rest → Took (chain D next s) V F ts xs rest
chain_end {S} {A} {D} {next} {V} {F} {s} {ts} {rest} {xs} none t = record {
  taken = t.taken;
  whole = t.whole;
  derives = t.derives;
  within = t.within;
  no_end = t.no_end;
  only = λ ys us r other m e h f.
      let p = t.only ys us r other m e h f in
      let q = chain_end_next D next (state_after next s xs) rest none p.0 p.1 r other p.3 p.4 h in
      (p.2 ∙ ap (λ l. xs ++ l) q.0 ∙ append-nil xs, q.1);
}
