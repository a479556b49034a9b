-- A text between quotes has one end and one value.
use Rattle.std.proofs.Common.{◌≡◌, ℕ, Bool, false, IsTrue, List, [], ◌∷◌, ◌++◌, inl, inr, refl, sym, ap, ◌∙◌, subst}
use Rattle.std.proofs.Common.{append_assoc, append-nil, arith}
use Rattle.std.specs.Str.{encode_utf8_all}
use Rattle.ae_text.specs.declared.texts.Part.{Part}
use Rattle.ae_text.specs.declared.texts.Part.TheVariants.{Plain, Escape}
use Rattle.ae_text.specs.Tokens.{Text, Stops, in_line, in_text, is_escape, parts_text, AreParts, AreKnownEscapes}
use Rattle.ae_text.specs.Tokens.{parts_meaning, IsQuoted, EndsOpen, IsOpen, IsBadEscape}
use Rattle.ae_text.proofs.TextLemmas.{first_is, no_truth, not_both, spelled-append, parts-append}

pub tail_is : (b c : ℕ) (s r : Text) → b ∷ s ≡ c ∷ r → s ≡ r
tail_is b c s r e = cc

plain_no_quote : (c : ℕ) → IsTrue (in_text c) → c ≡ 34 → ⊥
plain_no_quote c h e = let P : ℕ → Type 0 = λ x. IsTrue (in_text x) in no_truth (subst P e h)

plain_no_escape : (c : ℕ) → IsTrue (in_text c) → c ≡ 92 → ⊥
plain_no_escape c h e = let P : ℕ → Type 0 = λ x. IsTrue (in_text x) in no_truth (subst P e h)

plain_no_feed : (c : ℕ) → IsTrue (in_text c) → c ≡ 10 → ⊥
plain_no_feed c h e = let P : ℕ → Type 0 = λ x. IsTrue (in_text x) in no_truth (subst P e h)

-- what comes after all parts of a text: it begins with none
abbrev NoPart : Text → Type 0
NoPart text = (p : Part) (after : Text) → text ≡ parts_text (p ∷ []) ++ after → AreParts (p ∷ []) → ⊥

quote_no_part : (after : Text) → NoPart (34 ∷ after)
quote_no_part after (Plain c) r e m = plain_no_quote c m.0 (sym (first_is 34 c after r e))
quote_no_part after (Escape c) r e m = let same : 34 ≡ 92 = first_is 34 92 after (c ∷ r) e in omega (arith, same)

open_no_part : (text : Text) → EndsOpen text → NoPart text
open_no_part [] o (Plain c) r e m = let no_way : [] ≡ c ∷ r = e in cc
open_no_part [] o (Escape c) r e m = let no_way : [] ≡ 92 ∷ c ∷ r = e in cc
open_no_part (d ∷ text) (inl f) (Plain c) r e m = plain_no_feed c m.0 (sym (first_is d c text r e) ∙ f)
open_no_part (d ∷ text) (inl f) (Escape c) r e m = let same : 10 ≡ 92 = sym f ∙ first_is d 92 text (c ∷ r) e in omega
    (arith, same)
open_no_part (d ∷ text) (inr f) (Plain c) r e m = plain_no_escape c m.0 (sym (first_is d c text r e) ∙ f.0)
open_no_part (d ∷ text) (inr f) (Escape c) r e m =
    let P : Text → Type 0 = Stops in_line in
    let stops : in_line c ≡ false = subst P (tail_is d 92 text (c ∷ r) e) f.1 in not_both (in_line c) m.0 stops

-- two lists of parts that are all of one text's are one
parts_same : (a b : List Part) (x y : Text) → AreParts a → AreParts b → NoPart x → NoPart y
    → parts_text a ++ x ≡ parts_text b ++ y → (a ≡ b) × (x ≡ y)
parts_same [] [] x y m n p q e = (refl, e)
parts_same [] (Plain c ∷ b) x y m n p q e = absurd (p (Plain c) (parts_text b ++ y) e (n.0, tt))
parts_same [] (Escape c ∷ b) x y m n p q e = absurd (p (Escape c) (parts_text b ++ y) e (n.0, tt))
parts_same (Plain c ∷ a) [] x y m n p q e = absurd (q (Plain c) (parts_text a ++ x) (sym e) (m.0, tt))
parts_same (Escape c ∷ a) [] x y m n p q e = absurd (q (Escape c) (parts_text a ++ x) (sym e) (m.0, tt))
parts_same (Plain c ∷ a) (Plain d ∷ b) x y m n p q e =
    let heads : c ≡ d = cc in
    let tails : parts_text a ++ x ≡ parts_text b ++ y = cc in
    let r = parts_same a b x y m.1 n.1 p q tails in
    (ap (λ w. Plain w ∷ a) heads ∙ ap (λ l. Plain d ∷ l) r.0, r.1)
parts_same (Plain c ∷ a) (Escape d ∷ b) x y m n p q e = absurd (plain_no_escape c m.0 (first_is c 92 _ _ e))
parts_same (Escape c ∷ a) (Plain d ∷ b) x y m n p q e = absurd (plain_no_escape d n.0 (first_is d 92 _ _ (sym e)))
parts_same (Escape c ∷ a) (Escape d ∷ b) x y m n p q e =
    let heads : c ≡ d = cc in
    let tails : parts_text a ++ x ≡ parts_text b ++ y = cc in
    let r = parts_same a b x y m.1 n.1 p q tails in
    (ap (λ w. Escape w ∷ a) heads ∙ ap (λ l. Escape d ∷ l) r.0, r.1)

-- a closed text, where more comes after it
after_quote : (parts : List Part) (more : Text) → 34 ∷ (parts_text parts ++ 34 ∷ []) ++ more ≡ 34
    ∷ (parts_text parts ++ 34 ∷ more)
after_quote parts more = ap (λ x. 34 ∷ x) (append_assoc (parts_text parts) (34 ∷ []) more)

pub quoted_same : (bytes bytes' s s' x y : Text) (q : IsQuoted bytes s) (r : IsQuoted bytes' s') → s ++ x ≡ s' ++ y
    → (q.parts ≡ r.parts) × (x ≡ y)
quoted_same bytes bytes' s s' x y q r e =
    let all : 34 ∷ (parts_text q.parts ++ 34 ∷ x) ≡ 34 ∷ (parts_text r.parts ++ 34 ∷ y) =
    sym (after_quote q.parts x) ∙ ap (λ w. w ++ x) (sym q.whole) ∙ e ∙ ap (λ w. w ++ y) r.whole
    ∙ after_quote r.parts y in
    let p = parts_same q.parts r.parts (34 ∷ x) (34 ∷ y) q.are r.are (quote_no_part x) (quote_no_part y)
    (tail_is 34 34 _ _ all) in
    (p.0, tail_is 34 34 x y p.1)

pub quoted_value : (x y s : Text) → IsQuoted x s → IsQuoted y s → x ≡ y
quoted_value x y s q r = let p = quoted_same x y s s [] [] q r refl in q.value_is
    ∙ ap (λ w. encode_utf8_all (parts_meaning w)) p.0 ∙ sym r.value_is

pub quoted_longest : (x y s more : Text) → IsQuoted x s → IsQuoted y (s ++ more) → more ≡ []
quoted_longest x y s more q r = (quoted_same x y s (s ++ more) more [] q r (sym (append-nil (s ++ more)))).1

-- an open text is not closed
pub open_no_quoted : (rest bytes s y : Text) → IsOpen rest → IsQuoted bytes s → rest ≡ s ++ y → ⊥
open_no_quoted rest bytes s y o q e =
    let all : 34 ∷ (parts_text o.inner ++ o.after) ≡ 34 ∷ (parts_text q.parts ++ 34 ∷ y) = sym o.parts ∙ e
    ∙ ap (λ w. w ++ y) q.whole ∙ after_quote q.parts y in
    let p = parts_same o.inner q.parts o.after (34 ∷ y) o.are q.are (open_no_part o.after o.ends) (quote_no_part y)
    (tail_is 34 34 _ _ all) in
    let P : Text → Type 0 = EndsOpen
    in quote_no_open (subst P p.1 o.ends)
  where
    quote_no_open : EndsOpen (34 ∷ y) → ⊥
    quote_no_open (inl f) = omega (arith, f)
    quote_no_open (inr f) = let g = f.0 in omega (arith, g)

escape_unknown : (a b : List Part) (c : ℕ) → is_escape c ≡ false → AreKnownEscapes (a ++ Escape c ∷ b) → ⊥
escape_unknown [] b c u k = not_both (is_escape c) k.0 u
escape_unknown (Plain d ∷ a) b c u k = escape_unknown a b c u k
escape_unknown (Escape d ∷ a) b c u k = escape_unknown a b c u k.1

-- the parts of a text with an escape that stands for nothing
abbrev all_parts : {before rest : Text} → IsBadEscape before rest → List Part
all_parts o = o.inner ++ Escape o.char ∷ o.more

bad_whole : (before rest : Text) (o : IsBadEscape before rest)
    → before ++ rest ≡ 34 ∷ (parts_text (all_parts o) ++ 34 ∷ o.after)
bad_whole before rest o =
    ap (λ w. w ++ rest) o.front ∙ ap (λ w. 34 ∷ (parts_text o.inner ++ w)) o.parts
    ∙ ap (λ w. 34 ∷ w) (sym (append_assoc (parts_text o.inner) (92 ∷ o.char ∷ parts_text o.more) (34 ∷ o.after))
    ∙ ap (λ w. w ++ 34 ∷ o.after) (sym (spelled-append o.inner (Escape o.char ∷ o.more))))

bad_parts : (before rest : Text) (o : IsBadEscape before rest) → AreParts (all_parts o)
bad_parts before rest o = parts-append o.inner (Escape o.char ∷ o.more) o.are (o.goes_on_line, o.are_more)

quote_no_open : (y : Text) → EndsOpen (34 ∷ y) → ⊥
quote_no_open y (inl f) = omega (arith, f)
quote_no_open y (inr f) = let g = f.0 in omega (arith, g)

pub bad_no_open : (before rest text : Text) → IsBadEscape before rest → IsOpen text → before ++ rest ≡ text → ⊥
bad_no_open before rest text o q e =
    let all : 34 ∷ (parts_text (all_parts o) ++ 34 ∷ o.after) ≡ 34 ∷ (parts_text q.inner ++ q.after) =
    sym (bad_whole before rest o) ∙ e ∙ q.parts in
    let p = parts_same (all_parts o) q.inner (34 ∷ o.after) q.after (bad_parts before rest o) q.are
    (quote_no_part o.after) (open_no_part q.after q.ends) (tail_is 34 34 _ _ all) in
    let P : Text → Type 0 = EndsOpen in
    quote_no_open o.after (subst P (sym p.1) q.ends)

-- the first escape that stands for nothing is one
first_unknown : (a b x y : List Part) (c d : ℕ) → AreKnownEscapes a → AreKnownEscapes b → is_escape c ≡ false
    → is_escape d ≡ false → a ++ Escape c ∷ x ≡ b ++ Escape d ∷ y → a ≡ b
first_unknown [] [] x y c d m n u v e = refl
first_unknown [] (Plain k ∷ b) x y c d m n u v e = let no_way : Escape c ∷ x ≡ Plain k ∷ (b ++ Escape d ∷ y) = e in cc
first_unknown [] (Escape k ∷ b) x y c d m n u v e =
    let same : c ≡ k = cc in
    let P : ℕ → Type 0 = λ w. is_escape w ≡ false in absurd (not_both (is_escape k) n.0 (subst P same u))
first_unknown (Plain k ∷ a) [] x y c d m n u v e = let no_way : Plain k ∷ (a ++ Escape c ∷ x) ≡ Escape d ∷ y = e in cc
first_unknown (Escape k ∷ a) [] x y c d m n u v e =
    let same : d ≡ k = cc in
    let P : ℕ → Type 0 = λ w. is_escape w ≡ false in absurd (not_both (is_escape k) m.0 (subst P same v))
first_unknown (Plain k ∷ a) (Plain l ∷ b) x y c d m n u v e =
    let heads : k ≡ l = cc in
    let tails : a ++ Escape c ∷ x ≡ b ++ Escape d ∷ y = cc in
    ap (λ w. Plain w ∷ a) heads ∙ ap (λ w. Plain l ∷ w) (first_unknown a b x y c d m n u v tails)
first_unknown (Plain k ∷ a) (Escape l ∷ b) x y c d m n u v e = let no_way : Plain k ∷ (a ++ Escape c ∷ x) ≡ Escape l
    ∷ (b ++ Escape d ∷ y) = e in cc
first_unknown (Escape k ∷ a) (Plain l ∷ b) x y c d m n u v e = let no_way : Escape k ∷ (a ++ Escape c ∷ x) ≡ Plain l
    ∷ (b ++ Escape d ∷ y) = e in cc
first_unknown (Escape k ∷ a) (Escape l ∷ b) x y c d m n u v e =
    let heads : k ≡ l = cc in
    let tails : a ++ Escape c ∷ x ≡ b ++ Escape d ∷ y = cc in
    ap (λ w. Escape w ∷ a) heads ∙ ap (λ w. Escape l ∷ w) (first_unknown a b x y c d m.1 n.1 u v tails)

pub bad_same : (b x c y : Text) → IsBadEscape b x → IsBadEscape c y → b ++ x ≡ c ++ y → b ≡ c
bad_same b x c y o q e =
    let all : 34 ∷ (parts_text (all_parts o) ++ 34 ∷ o.after) ≡ 34 ∷ (parts_text (all_parts q) ++ 34 ∷ q.after) =
    sym (bad_whole b x o) ∙ e ∙ bad_whole c y q in
    let p = parts_same (all_parts o) (all_parts q) (34 ∷ o.after) (34 ∷ q.after) (bad_parts b x o) (bad_parts c y q)
    (quote_no_part o.after) (quote_no_part q.after) (tail_is 34 34 _ _ all) in
    o.front ∙ ap (λ w. 34 ∷ parts_text w)
    (first_unknown o.inner q.inner o.more q.more o.char q.char o.known q.known o.unknown q.unknown p.0)
    ∙ sym q.front

-- a text with an escape that stands for nothing has no value
pub bad_no_quoted : (before rest bytes s y : Text) → IsBadEscape before rest → IsQuoted bytes s
    → before ++ rest ≡ s ++ y → ⊥
bad_no_quoted before rest bytes s y o q e =
    let all : 34 ∷ (parts_text (all_parts o) ++ 34 ∷ o.after) ≡ 34 ∷ (parts_text q.parts ++ 34 ∷ y) =
    sym (bad_whole before rest o) ∙ e ∙ ap (λ w. w ++ y) q.whole ∙ after_quote q.parts y in
    let p = parts_same (all_parts o) q.parts (34 ∷ o.after) (34 ∷ y) (bad_parts before rest o) q.are
    (quote_no_part o.after) (quote_no_part y) (tail_is 34 34 _ _ all) in
    let P : List Part → Type 0 = AreKnownEscapes in
    escape_unknown o.inner o.more o.char o.unknown (subst P (sym p.0) q.known)
