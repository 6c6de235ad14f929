-- What is wrong with the words of a call.
use Rattle.std.proofs.Common.{◌≡◌, ◌≢◌, inl, inr, ℕ, ◌*◌, ◌<◌, ◌≤◌, List, [], ◌∷◌, ◌++◌, length, cond, Bool, true}
use Rattle.std.proofs.Common.{false, Some, None, decimal, refl, sym, ◌∙◌, ap, subst, arith, eqb, ne_eqb, append_assoc}
use Rattle.std.specs.Prelude.{All, codes}
use Rattle.std.proofs.lemmas.List.Elements.{All-head, All-tail}
use Rattle.core_state.specs.declared.answer.Kind.{Kind}
use Rattle.core_state.specs.declared.answer.Kind.TheVariants.{Put, Get, Sum, Free, Sync, Attach, Copy}
use Rattle.client_script.specs.declared.call.Fill.TheVariants.{Nothing, Pattern, Hex}
use Rattle.client_script.specs.declared.call_fault.CallFault.TheVariants.{UnknownCall, Number, PutWords, NoBytes}
use Rattle.client_script.specs.declared.call_fault.CallFault.TheVariants.{TooManyBytes, HexDigits, IdAlone, WordAlone}
use Rattle.client_script.specs.Lines.{with_byte}
use Rattle.client_script.specs.Words.{IsCut, IsNumber, IsPattern, IsHexWords, IsWords, HasNoCall, IsBareWord}
use Rattle.client_script.specs.Faults.{split_words, AreNumbers, IsIdName, IsPutName, IsBareName, IsCallName}
use Rattle.client_script.specs.Faults.{IsCallFault}
use Rattle.client_script.proofs.CallWords.{hex_read}

-- A byte that is no space begins the first word.
more_in_word : (byte : ℕ) (bytes : List ℕ) → byte ≢ 32 → split_words (byte ∷ bytes) ≡ with_byte byte (split_words bytes)
more_in_word byte bytes isnt = ap (λ b. cond b ([] ∷ split_words bytes) (with_byte byte (split_words bytes))) (ne_eqb byte 32 isnt)

split_front : (front back : List ℕ) → All (λ byte. byte ≢ 32) front → split_words (front ++ 32 ∷ back) ≡ front ∷ split_words back
split_front [] back none = refl
split_front (byte ∷ front) back none =
    more_in_word byte (front ++ 32 ∷ back) (All-head (λ b. b ≢ 32) byte front none)
    ∙ ap (with_byte byte) (split_front front back (All-tail (λ b. b ≢ 32) byte front none))

-- A text that is cut at its first space, and one that has none.
pub split_cut : (text front back : List ℕ) → IsCut text 32 front back → split_words text ≡ front ∷ split_words back
split_cut text front back is = ap split_words is.whole ∙ split_front front back is.first

pub split_alone : (text : List ℕ) → All (λ byte. byte ≢ 32) text → split_words text ≡ text ∷ []
split_alone [] none = refl
split_alone (byte ∷ text) none =
    more_in_word byte text (All-head (λ b. b ≢ 32) byte text none)
    ∙ ap (with_byte byte) (split_alone text (All-tail (λ b. b ≢ 32) byte text none))

-- A text has a word at least.
one_more : (b : Bool) (byte : ℕ) (words : List (List ℕ)) → 0 < length (cond b ([] ∷ words) (with_byte byte words))
one_more true byte words = omega arith
one_more false byte [] = omega arith
one_more false byte (word ∷ words) = omega arith

pub some_word : (text : List ℕ) → 0 < length (split_words text)
some_word [] = omega arith
some_word (byte ∷ text) = one_more (eqb byte 32) byte (split_words text)

-- The words of a put: too few, too many, or three.
pub one_word : (rest : List ℕ) → All (λ byte. byte ≢ 32) rest → IsCallFault (codes "put " ++ rest) PutWords
one_word rest none = inl (split_words rest, refl, λ three. omega (arith, three, ap length (split_alone rest none)))

pub two_words : (rest id more : List ℕ) → IsCut rest 32 id more → All (λ byte. byte ≢ 32) more → IsCallFault (codes "put " ++ rest) PutWords
two_words rest id more first none =
    inl (split_words rest, refl, λ three. omega (arith, three, ap length (split_cut rest id more first), ap length (split_alone more none)))

pub four_words : (rest id more len seed front back : List ℕ) → IsCut rest 32 id more → IsCut more 32 len seed → IsCut seed 32 front back → IsCallFault (codes "put " ++ rest) PutWords
four_words rest id more len seed front back first second third =
    inl (
      split_words rest,
      refl,
      λ three.
          omega (arith, three, ap length (split_cut rest id more first), ap length (split_cut more len seed second), ap length (split_cut seed front back third), some_word back),
    )

-- Three words of a put.
module _ (rest id more len seed : List ℕ) (first : IsCut rest 32 id more) (second : IsCut more 32 len seed) (third : All (λ byte. byte ≢ 32) seed) where
  three_words : split_words (codes "put " ++ rest) ≡ codes "put" ∷ id ∷ len ∷ seed ∷ []
  three_words = ap (λ (l : List (List ℕ)). codes "put" ∷ l)
      (split_cut rest id more first
      ∙ ap (λ (l : List (List ℕ)). id ∷ l) (split_cut more len seed second ∙ ap (λ (l : List (List ℕ)). len ∷ l) (split_alone seed third)))

  pub no_bytes : (count : ℕ) → IsNumber len count → count ≡ 0 → IsCallFault (codes "put " ++ rest) NoBytes
  no_bytes count is none = (id, len, seed, three_words, subst (IsNumber len) none is)

  pub many_bytes : (count : ℕ) → IsNumber len count → 65536 < count → IsCallFault (codes "put " ++ rest) TooManyBytes
  many_bytes count is many = inl (id, len, seed, count, three_words, is, many)

  -- A length that is right, or none: then some word is no number.
  lacking : ((a b c : ℕ) → IsPattern rest a b c → ⊥) → ((count : ℕ) → IsNumber len count → (1 ≤ count) × (count ≤ 65536)) → AreNumbers (id ∷ len ∷ seed ∷ []) → ⊥
  lacking isnt right ([], each) = absurd each
  lacking isnt right (a ∷ [], each) = absurd each.1
  lacking isnt right (a ∷ b ∷ [], each) = absurd each.1.1
  lacking isnt right (a ∷ b ∷ c ∷ [], each) =
      isnt a b c (record {
        spelled = first.whole ∙ ap (λ (l : List ℕ). id ++ 32 ∷ l) second.whole
            ∙ (λ i. each.0.spelled i ++ 32 ∷ (each.1.0.spelled i ++ 32 ∷ each.1.1.0.spelled i));
        id_fits = each.0.fits;
        some = (right b each.1.0).0;
        few = (right b each.1.0).1;
        seed_fits = each.1.1.0.fits;
      })
  lacking isnt right (a ∷ b ∷ c ∷ d ∷ numbers, each) = absurd each.1.1.1

  pub no_number : ((a b c : ℕ) → IsPattern rest a b c → ⊥) → ((count : ℕ) → IsNumber len count → (1 ≤ count) × (count ≤ 65536)) → IsCallFault (codes "put " ++ rest) Number
  no_number isnt right = inl (id, len, seed, three_words, lacking isnt right)

-- One word that is no number.
pub none_is_number : (word : List ℕ) → ((number : ℕ) → IsNumber word number → ⊥) → AreNumbers (word ∷ []) → ⊥
none_is_number word isnt ([], each) = absurd each
none_is_number word isnt (a ∷ [], each) = isnt a each.0
none_is_number word isnt (a ∷ b ∷ numbers, each) = absurd each.1

-- The words of a put of digits.
pub no_digits : (rest : List ℕ) → All (λ byte. byte ≢ 32) rest → IsCallFault (codes "puthex " ++ rest) PutWords
no_digits rest none = inr (split_words rest, refl, omega (arith, ap length (split_alone rest none)))

pub hex_id : (rest word digits : List ℕ) → IsCut rest 32 word digits → ((number : ℕ) → IsNumber word number → ⊥) → IsCallFault (codes "puthex " ++ rest) Number
hex_id rest word digits cut isnt =
    inr (inl (word, split_words digits, ap (λ (l : List (List ℕ)). codes "puthex" ∷ l) (split_cut rest word digits cut), none_is_number word isnt))

pub many_digits : (rest word digits : List ℕ) → IsCut rest 32 word digits → 2 * 65536 < length digits → IsCallFault (codes "puthex " ++ rest) TooManyBytes
many_digits rest word digits cut many = inr (word, digits, ap (λ (l : List ℕ). codes "puthex " ++ l) cut.whole, many)

pub wrong_digits : (rest word digits : List ℕ) (id : ℕ) → IsCut rest 32 word digits → IsNumber word id → ((id : ℕ) (bytes : List ℕ) → IsHexWords rest id bytes → ⊥) → IsCallFault (codes "puthex " ++ rest) HexDigits
wrong_digits rest word digits id cut is isnt = (
  word,
  digits,
  ap (λ (l : List ℕ). codes "puthex " ++ l) cut.whole,
  λ bytes hex. isnt id bytes (record { digits = digits; led = record { spelled = cut.whole ∙ ap (λ (w : List ℕ). w ++ 32 ∷ digits) is.spelled; fits = is.fits }; hex = hex }),
)

-- A call that has an id alone.
split_id : (name rest : List ℕ) → IsIdName name → split_words (name ++ 32 ∷ rest) ≡ name ∷ split_words rest
split_id name rest (inl get) = subst (λ (n : List ℕ). split_words (n ++ 32 ∷ rest) ≡ n ∷ split_words rest) (sym get) refl
split_id name rest (inr (inl sum)) = subst (λ (n : List ℕ). split_words (n ++ 32 ∷ rest) ≡ n ∷ split_words rest) (sym sum) refl
split_id name rest (inr (inr free)) = subst (λ (n : List ℕ). split_words (n ++ 32 ∷ rest) ≡ n ∷ split_words rest) (sym free) refl

split_name : (name : List ℕ) → IsIdName name → split_words name ≡ name ∷ []
split_name name (inl get) = subst (λ (n : List ℕ). split_words n ≡ n ∷ []) (sym get) refl
split_name name (inr (inl sum)) = subst (λ (n : List ℕ). split_words n ≡ n ∷ []) (sym sum) refl
split_name name (inr (inr free)) = subst (λ (n : List ℕ). split_words n ≡ n ∷ []) (sym free) refl

pub name_alone : (name : List ℕ) → IsIdName name → IsCallFault name IdAlone
name_alone name is = (name, [], is, split_name name is, λ one. omega (arith, one))

pub two_ids : (name rest front back : List ℕ) → IsIdName name → IsCut rest 32 front back → IsCallFault (name ++ 32 ∷ rest) IdAlone
two_ids name rest front back is cut =
    (name, split_words rest, is, split_id name rest is, λ one. omega (arith, one, ap length (split_cut rest front back cut), some_word back))

pub wrong_id : (name rest : List ℕ) → IsIdName name → All (λ byte. byte ≢ 32) rest → ((id : ℕ) → IsNumber rest id → ⊥) → IsCallFault (name ++ 32 ∷ rest) Number
wrong_id name rest is none isnt =
    inr (inr (name, rest, is, split_id name rest is ∙ ap (λ (l : List (List ℕ)). name ∷ l) (split_alone rest none), none_is_number rest isnt))

-- Words that no call has.
parts : (id len seed : List ℕ) → id ++ 32 ∷ (len ++ 32 ∷ seed) ≡ id ++ codes " " ++ len ++ codes " " ++ seed
parts id len seed =
    sym (append_assoc (id ++ codes " " ++ len) (codes " ") seed
    ∙ append_assoc (id ++ codes " ") len (32 ∷ seed)
    ∙ append_assoc id (codes " ") (len ++ 32 ∷ seed))

pub not_pattern : (rest : List ℕ) → HasNoCall (codes "put " ++ rest) → (id len seed : ℕ) → IsPattern rest id len seed → ⊥
not_pattern rest isnt id len seed is = isnt Put (Some id) (Pattern len seed) (record {
  served = tt;
  some = omega arith;
  spelled = ap (λ (l : List ℕ). codes "put " ++ l) (is.spelled ∙ parts (decimal id) (decimal len) (decimal seed));
  id_fits = is.id_fits;
  fill_fits = (is.some, is.few, is.seed_fits);
})

pub not_hex : (rest : List ℕ) → HasNoCall (codes "puthex " ++ rest) → (id : ℕ) (bytes : List ℕ) → IsHexWords rest id bytes → ⊥
not_hex rest isnt id bytes is =
    isnt Put (Some id) (Hex bytes)
    (hex_read (codes "puthex " ++ rest) rest 0 (Some (record { line = 0; kind = Put; id = Some id; fill = Hex bytes })) refl (id, bytes, is, refl)).1

pub not_id : (name rest : List ℕ) → IsIdName name → HasNoCall (name ++ 32 ∷ rest) → (id : ℕ) → IsNumber rest id → ⊥
not_id name rest (inl get) isnt id is =
    isnt Get (Some id) Nothing (record { served = tt; some = omega arith; spelled = (λ i. get i ++ 32 ∷ is.spelled i); id_fits = is.fits; fill_fits = tt })
not_id name rest (inr (inl sum)) isnt id is =
    isnt Sum (Some id) Nothing (record { served = tt; some = omega arith; spelled = (λ i. sum i ++ 32 ∷ is.spelled i); id_fits = is.fits; fill_fits = tt })
not_id name rest (inr (inr free)) isnt id is =
    isnt Free (Some id) Nothing (record { served = tt; some = omega arith; spelled = (λ i. free i ++ 32 ∷ is.spelled i); id_fits = is.fits; fill_fits = tt })

-- One word.
pub put_alone : (word : List ℕ) → IsPutName word → IsCallFault word PutWords
put_alone word (inl put) = subst (λ (w : List ℕ). IsCallFault w PutWords) (sym put) (inl ([], refl, λ three. omega (arith, three)))
put_alone word (inr puthex) = subst (λ (w : List ℕ). IsCallFault w PutWords) (sym puthex) (inr ([], refl, omega arith))

-- The word of a call that has nothing else is its words, and so a name of such a call is one.
bare_words : (word : List ℕ) (kind : Kind) → IsBareWord word kind → IsWords word kind None Nothing
bare_words word kind is = record { served = is.0; some = is.1; spelled = is.2; id_fits = tt; fill_fits = tt }

bare_alone : (word : List ℕ) → IsBareName word → HasNoCall word → ⊥
bare_alone word (inl sync) isnt = isnt Sync None Nothing (bare_words word Sync (tt, omega arith, sync))
bare_alone word (inr (inl attach)) isnt = isnt Attach None Nothing (bare_words word Attach (tt, omega arith, attach))
bare_alone word (inr (inr copy)) isnt = isnt Copy None Nothing (bare_words word Copy (tt, omega arith, copy))

pub unknown_alone : (word : List ℕ) → All (λ byte. byte ≢ 32) word → HasNoCall word → (IsPutName word → ⊥) → (IsIdName word → ⊥) → IsCallFault word UnknownCall
unknown_alone word none isnt no_put no_id = (word, [], split_alone word none, no_name)
  where
    no_name : IsCallName word → ⊥
    no_name (inl put) = no_put put
    no_name (inr (inl id)) = no_id id
    no_name (inr (inr bare)) = bare_alone word bare isnt

-- A first word that names no call, and one that names a call of one word.
pub unknown_name : (words name rest : List ℕ) → IsCut words 32 name rest → name ≢ codes "put" → name ≢ codes "puthex" → (IsBareName name → ⊥) → (IsIdName name → ⊥) → IsCallFault words UnknownCall
unknown_name words name rest cut no_put no_hex no_bare no_id = (name, split_words rest, split_cut words name rest cut, no_name)
  where
    no_name : IsCallName name → ⊥
    no_name (inl (inl put)) = no_put put
    no_name (inl (inr puthex)) = no_hex puthex
    no_name (inr (inl id)) = no_id id
    no_name (inr (inr bare)) = no_bare bare

pub more_than_name : (words name rest : List ℕ) → IsCut words 32 name rest → IsBareName name → IsCallFault words WordAlone
more_than_name words name rest cut is = (name, split_words rest, is, split_cut words name rest cut, some_word rest)

-- What a name and what follows it make.
pub named_words : (words name other rest : List ℕ) → IsCut words 32 name rest → name ≡ other → words ≡ other ++ 32 ∷ rest
named_words words name other rest cut same = cut.whole ∙ ap (λ (n : List ℕ). n ++ 32 ∷ rest) same
