-- A text between quotes, as the layout writes it, is read as that text.
use Rattle.std.proofs.Common.{◌≡◌, ℕ, suc, ◌<◌, ◌≤◌, Bool, true, false, ◌&&◌, ◌==◌, if◌then◌else◌, IsTrue, List, []}
use Rattle.std.proofs.Common.{◌∷◌, ◌++◌, length, get_or, refl, sym, ap, ◌∙◌, subst, append_assoc, append-nil}
use Rattle.std.proofs.Common.{eqb-true, lit<, arith, ◌⊎◌, inl, inr}
use Rattle.std.proofs.lemmas.Bool.{cases_lt, and_parts}
use Rattle.std.specs.Char.{encode_utf8, IsScalar}
use Rattle.std.specs.Str.{encode_utf8_all, all_scalars}
use Rattle.std.proofs.lemmas.Str.{encodes-append, encode_ascii, inside_one}
use Rattle.ae_text.specs.declared.texts.Part.{Part}
use Rattle.ae_text.specs.declared.texts.Part.TheVariants.{Plain, Escape}
use Rattle.ae_text.specs.Tokens.{Text, in_text, escape_meaning, parts_text, AreParts, AreKnownEscapes, parts_meaning}
use Rattle.ae_text.specs.Tokens.{IsQuoted}
use Rattle.ae_layout.specs.Spelling.{escaped_byte as written_byte, all_escaped}
use Rattle.ae_layout.proofs.from_text.TextLemmas.{spelled-append, parts-append}

-- ---- one character

-- the part that the layout writes for a character
abbrev pub part_of : ℕ → Part
part_of c = if c == 10 then Escape 110 else if c == 9 then Escape 116 else if c == 34 then Escape 34 else if c ==
    92 then Escape 92 else Plain c

-- the character is one of those that are escaped, or it stands for itself
data View (c : ℕ) : Type 0 where
  Feed : c ≡ 10 → View c
  Tab : c ≡ 9 → View c
  Quote : c ≡ 34 → View c
  Slash : c ≡ 92 → View c
  Itself : (c == 10) ≡ false → (c == 9) ≡ false → (c == 34) ≡ false → (c == 92) ≡ false → View c

view : (c : ℕ) → View c
view c = by_test (c == 10) (c == 9) (c == 34) (c == 92) refl refl refl refl
  where
    by_test : (k l m n : Bool) → (c == 10) ≡ k → (c == 9) ≡ l → (c == 34) ≡ m → (c == 92) ≡ n → View c
    by_test true l m n e f g h = Feed (eqb-true c 10 e)
    by_test false true m n e f g h = Tab (eqb-true c 9 f)
    by_test false false true n e f g h = Quote (eqb-true c 34 g)
    by_test false false false true e f g h = Slash (eqb-true c 92 h)
    by_test false false false false e f g h = Itself e f g h

itself_part : (c : ℕ) → (c == 10) ≡ false → (c == 9) ≡ false → (c == 34) ≡ false → (c == 92) ≡ false
    → part_of c ≡ Plain c
itself_part c e f g h = rw (e, f, g, h) refl

itself_byte : (c : ℕ) → (c == 10) ≡ false → (c == 9) ≡ false → (c == 34) ≡ false → (c == 92) ≡ false
    → written_byte c ≡ c ∷ []
itself_byte c e f g h = rw (e, f, g, h) refl

itself_in_text : (c : ℕ) → (c == 10) ≡ false → (c == 34) ≡ false → (c == 92) ≡ false → IsTrue (in_text c)
itself_in_text c e g h = rw (e, g, h) refl

-- ---- characters and bytes

pub scalars-append : (cs ds : Text) → all_scalars cs ≡ true → all_scalars ds ≡ true → all_scalars (cs ++ ds) ≡ true
scalars-append [] ds m n = n
scalars-append (c ∷ cs) ds m n = let p = and_parts _ (all_scalars cs) m in rw p.0 (scalars-append cs ds p.1 n)

scalar_one : (c : ℕ) → IsScalar c → all_scalars (c ∷ []) ≡ true
scalar_one c h = rw h refl

all_escaped-append : (a b : Text) → all_escaped (a ++ b) ≡ all_escaped a ++ all_escaped b
all_escaped-append [] b = refl
all_escaped-append (x ∷ a) b = ap (λ l. written_byte x ++ l) (all_escaped-append a b)
    ∙ sym (append_assoc (written_byte x) (all_escaped a) (all_escaped b))

-- a byte of a longer character is written as it is
high_byte : (b : ℕ) → View b → 128 ≤ b → written_byte b ≡ b ∷ []
high_byte b (Feed e) h = absurd (omega (arith, e))
high_byte b (Tab e) h = absurd (omega (arith, e))
high_byte b (Quote e) h = absurd (omega (arith, e))
high_byte b (Slash e) h = absurd (omega (arith, e))
high_byte b (Itself e f g i) h = itself_byte b e f g i

high_bytes : (bs : Text) → ((i : ℕ) → i < length bs → 128 ≤ get_or bs i 0) → all_escaped bs ≡ bs
high_bytes [] h = refl
high_bytes (b ∷ bs) h = ap (λ x. x ++ all_escaped bs) (high_byte b (view b) (h 0 (omega arith)))
    ∙ ap (λ x. b ∷ x) (high_bytes bs (λ i l. h (suc i) (omega arith)))

-- a character above ASCII is written as it is
high_char : (c : ℕ) → 128 ≤ c → all_escaped (encode_utf8 c) ≡ encode_utf8 c
high_char c h = high_bytes (encode_utf8 c) (λ i l. high i l (cases_lt (get_or (encode_utf8 c) i 0) 128))
  where
    high : (i : ℕ) → i < length (encode_utf8 c) → (get_or (encode_utf8 c) i 0 < 128)
        ⊎ (128 ≤ get_or (encode_utf8 c) i 0) → 128 ≤ get_or (encode_utf8 c) i 0
    high i l (inl s) = absurd (omega (arith, inside_one c [] (encode_utf8 c) i (sym (append-nil (encode_utf8 c))) l s))
    high i l (inr b) = b

itself_char : (c : ℕ) → written_byte c ≡ c ∷ [] → all_escaped (encode_utf8 c) ≡ encode_utf8 c
itself_char c e = by_size (cases_lt c 128)
  where
    by_size : (c < 128) ⊎ (128 ≤ c) → all_escaped (encode_utf8 c) ≡ encode_utf8 c
    by_size (inl l) = ap all_escaped (encode_ascii c l) ∙ append-nil (written_byte c) ∙ e ∙ sym (encode_ascii c l)
    by_size (inr h) = high_char c h

-- ---- what the part of a character comes to

record Fits (c : ℕ) (p : Part) : Type 0 where
  bytes : encode_utf8_all (parts_text (p ∷ [])) ≡ all_escaped (encode_utf8 c)
  are : AreParts (p ∷ [])
  known : AreKnownEscapes (p ∷ [])
  value_is : parts_meaning (p ∷ []) ≡ c ∷ []
  scalars : IsScalar c → all_scalars (parts_text (p ∷ [])) ≡ true

ascii_two : (a b c : ℕ) → a < 128 → b < 128 → c < 128 → a ∷ b ∷ [] ≡ written_byte c → encode_utf8_all (a ∷ b ∷ [])
    ≡ all_escaped (encode_utf8 c)
ascii_two a b c l m n e =
    ap (λ x. x ++ (encode_utf8 b ++ [])) (encode_ascii a l) ∙ ap (λ x. a ∷ x ++ []) (encode_ascii b m) ∙ e
    ∙ sym (append-nil (written_byte c)) ∙ ap all_escaped (sym (encode_ascii c n))

fits_by : (c : ℕ) → View c → Fits c (part_of c)
fits_by c (Feed e) = let P : ℕ → Type 0 = λ x. Fits x (part_of x) in subst P (sym e)
    (record {
      bytes = ascii_two 92 110 10 (lit< tt) (lit< tt) (lit< tt) refl;
      are = (refl, tt);
      known =
          (refl, tt);
      value_is = refl;
      scalars = λ h. refl;
    })
fits_by c (Tab e) = let P : ℕ → Type 0 = λ x. Fits x (part_of x) in subst P (sym e)
    (record {
      bytes = ascii_two 92 116 9 (lit< tt) (lit< tt) (lit< tt) refl;
      are = (refl, tt);
      known =
          (refl, tt);
      value_is = refl;
      scalars = λ h. refl;
    })
fits_by c (Quote e) = let P : ℕ → Type 0 = λ x. Fits x (part_of x) in subst P (sym e)
    (record {
      bytes = ascii_two 92 34 34 (lit< tt) (lit< tt) (lit< tt) refl;
      are = (refl, tt);
      known =
          (refl, tt);
      value_is = refl;
      scalars = λ h. refl;
    })
fits_by c (Slash e) = let P : ℕ → Type 0 = λ x. Fits x (part_of x) in subst P (sym e)
    (record {
      bytes = ascii_two 92 92 92 (lit< tt) (lit< tt) (lit< tt) refl;
      are = (refl, tt);
      known =
          (refl, tt);
      value_is = refl;
      scalars = λ h. refl;
    })
fits_by c (Itself e f g h) =
    let P : Part → Type 0 = Fits c in
    subst P (sym (itself_part c e f g h)) (record {
      bytes = append-nil (encode_utf8 c) ∙ sym (itself_char c (itself_byte c e f g h));
      are = (itself_in_text c e g h, tt);
      known = tt;
      value_is = refl;
      scalars = scalar_one c;
    })

fits : (c : ℕ) → Fits c (part_of c)
fits c = fits_by c (view c)

-- ---- all parts of a text

abbrev pub parts_of : Text → List Part
parts_of [] = []
parts_of (c ∷ cs) = part_of c ∷ parts_of cs

known_more : (p : Part) (ps : List Part) → AreKnownEscapes (p ∷ []) → AreKnownEscapes ps → AreKnownEscapes (p ∷ ps)
known_more (Plain c) ps m n = n
known_more (Escape c) ps m n = (m.0, n)

meant_more : (p : Part) (ps : List Part) → parts_meaning (p ∷ ps) ≡ parts_meaning (p ∷ []) ++ parts_meaning ps
meant_more (Plain c) ps = refl
meant_more (Escape c) ps = refl

parts_bytes : (cs : Text) → encode_utf8_all (parts_text (parts_of cs)) ≡ all_escaped (encode_utf8_all cs)
parts_bytes [] = refl
parts_bytes (c ∷ cs) =
    ap encode_utf8_all (spelled-append (part_of c ∷ []) (parts_of cs)) ∙ encodes-append (parts_text (part_of c ∷ []))
    (parts_text (parts_of cs))
    ∙ ap (λ x. x ++ encode_utf8_all (parts_text (parts_of cs))) (fits c).bytes
    ∙ ap (λ x. all_escaped (encode_utf8 c) ++ x) (parts_bytes cs)
    ∙ sym (all_escaped-append (encode_utf8 c) (encode_utf8_all cs))

parts_are : (cs : Text) → AreParts (parts_of cs)
parts_are [] = tt
parts_are (c ∷ cs) = parts-append (part_of c ∷ []) (parts_of cs) (fits c).are (parts_are cs)

parts_known : (cs : Text) → AreKnownEscapes (parts_of cs)
parts_known [] = tt
parts_known (c ∷ cs) = known_more (part_of c) (parts_of cs) (fits c).known (parts_known cs)

parts_mean : (cs : Text) → parts_meaning (parts_of cs) ≡ cs
parts_mean [] = refl
parts_mean (c ∷ cs) = meant_more (part_of c) (parts_of cs) ∙ ap (λ x. x ++ parts_meaning (parts_of cs))
    (fits c).value_is ∙ ap (λ x. c ∷ x) (parts_mean cs)

parts_scalars : (cs : Text) → all_scalars cs ≡ true → all_scalars (parts_text (parts_of cs)) ≡ true
parts_scalars [] h = refl
parts_scalars (c ∷ cs) h =
    let p = and_parts _ (all_scalars cs) h in
    let P : Text → Type 0 = λ x. all_scalars x ≡ true in
    subst P (sym (spelled-append (part_of c ∷ []) (parts_of cs)))
    (scalars-append (parts_text (part_of c ∷ [])) (parts_text (parts_of cs)) ((fits c).scalars p.0)
    (parts_scalars cs p.1))

-- ---- the characters that parts stand for

meant_scalars : (ps : List Part) → all_scalars (parts_text ps) ≡ true → AreKnownEscapes ps
    → all_scalars (parts_meaning ps) ≡ true
meant_scalars [] h k = refl
meant_scalars (Plain c ∷ ps) h k = let p = and_parts _ (all_scalars (parts_text ps)) h in rw p.0
    (meant_scalars ps p.1 k)
meant_scalars (Escape c ∷ ps) h k = let p = and_parts _ (all_scalars (parts_text ps)) h in scalars-append
    (escape_meaning c ∷ []) (parts_meaning ps) (scalar_one (escape_meaning c) (by_test (c == 110) (c == 116) p.0))
    (meant_scalars ps p.1 k.1)
  where
    by_test : (m n : Bool) → IsScalar c → IsScalar (if m then 10 else (if n then 9 else c))
    by_test true n h = refl
    by_test false true h = refl
    by_test false false h = h

inner_scalars : (s : Text) → all_scalars (s ++ 34 ∷ []) ≡ true → all_scalars s ≡ true
inner_scalars [] h = refl
inner_scalars (c ∷ s) h = let p = and_parts _ (all_scalars (s ++ 34 ∷ [])) h in rw p.0 (inner_scalars s p.1)

-- ---- the text as the layout writes it

abbrev pub quoted : Text → Text
quoted cs = 34 ∷ (parts_text (parts_of cs) ++ 34 ∷ [])

pub quoted_bytes : (cs : Text) → encode_utf8_all (quoted cs) ≡ 34 ∷ (all_escaped (encode_utf8_all cs) ++ 34 ∷ [])
quoted_bytes cs =
    ap (λ x. x ++ encode_utf8_all (parts_text (parts_of cs) ++ 34 ∷ [])) (encode_ascii 34 (lit< tt))
    ∙ ap (λ x. 34 ∷ x) (encodes-append (parts_text (parts_of cs)) (34 ∷ []) ∙ ap (λ x. x ++ encode_utf8_all (34 ∷ []))
    (parts_bytes cs) ∙ ap (λ x. all_escaped (encode_utf8_all cs) ++ (x ++ [])) (encode_ascii 34 (lit< tt)))

pub quoted_is : (bytes cs : Text) → bytes ≡ encode_utf8_all cs → IsQuoted bytes (quoted cs)
quoted_is bytes cs e = record {
  parts = parts_of cs;
  whole = refl;
  are = parts_are cs;
  known =
      parts_known cs;
  value_is = e ∙ ap encode_utf8_all (sym (parts_mean cs));
}

pub quoted_scalars : (cs : Text) → all_scalars cs ≡ true → all_scalars (quoted cs) ≡ true
quoted_scalars cs h = scalars-append (parts_text (parts_of cs)) (34 ∷ []) (parts_scalars cs h) refl

pub value_scalars : (bytes s : Text) (q : IsQuoted bytes s) → all_scalars s ≡ true
    → all_scalars (parts_meaning q.parts) ≡ true
value_scalars bytes s q h =
    let P : Text → Type 0 = λ x. all_scalars x ≡ true in
    meant_scalars q.parts (inner_scalars (parts_text q.parts) (subst P q.whole h)) q.known
