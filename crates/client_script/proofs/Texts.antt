-- One piece more of a text.
use Rattle.std.proofs.Common.{◌≡◌, ℕ, suc, ◌+◌, ◌/◌, ◌%◌, ◌<◌, List, [], ◌∷◌, ◌++◌, length, get_or, take, drop, Bool}
use Rattle.std.proofs.Common.{true, false, cond, sym, ◌∙◌, ap, arith, append_assoc}
use Rattle.std.specs.Prelude.{codes, decimal}
use Rattle.std.proofs.lemmas.List.{take_more, append-nil, length-take-le}
use Rattle.std.proofs.Math.Seq.{take-add}
use Rattle.std.proofs.lemmas.List.Concat.{flat_map-append}
use Rattle.core_state.specs.declared.item.Item.{Item}
use Rattle.uberblock_ring.specs.Devices.{has_device}
use Rattle.client_script.specs.Lines.{hex_digit, hex_text}
use Rattle.client_script.specs.Texts.{numbers_text, devices_in, item_text, lines_from}

-- The digits of a part, after those of the bytes before it.
pub hex_run : (bytes : List ℕ) (from count : ℕ) → hex_text (take (from + count) bytes) ≡ hex_text (take from bytes) ++ hex_text (take count (drop from bytes))
hex_run bytes from count =
    ap hex_text (take-add from count bytes)
    ∙ flat_map-append (λ byte. hex_digit (byte / 16) ∷ hex_digit (byte % 16) ∷ []) (take from bytes) (take count (drop from bytes))

-- One device more, which the set has.
pub devices_more : (devices device : ℕ) → has_device devices device ≡ true
    → numbers_text (devices_in devices (suc device)) ≡ numbers_text (devices_in devices device) ++ (codes " " ++ decimal device)
devices_more devices device has =
    ap (λ (b : Bool). numbers_text (devices_in devices device ++ cond b (device ∷ []) [])) has
    ∙ flat_map-append (λ number. codes " " ++ decimal number) (devices_in devices device) (device ∷ [])
    ∙ ap (λ (l : List ℕ). numbers_text (devices_in devices device) ++ l) (append-nil (codes " " ++ decimal device))

-- One device more, which the set has not.
pub devices_same : (devices device : ℕ) → has_device devices device ≡ false → numbers_text (devices_in devices (suc device)) ≡ numbers_text (devices_in devices device)
devices_same devices device hasnt =
    ap (λ (b : Bool). numbers_text (devices_in devices device ++ cond b (device ∷ []) [])) hasnt
    ∙ ap numbers_text (append-nil (devices_in devices device))

-- the text of one line of a journal
abbrev pub line_of : ℕ → Item → List ℕ
line_of number item = decimal number ++ codes " " ++ item_text item ++ codes "\n"

-- The lines of two lists of items.
lines_of_both : (number : ℕ) (items more : List Item) → lines_from number (items ++ more) ≡ lines_from number items ++ lines_from (number + length items) more
lines_of_both number [] more = ap (λ n. lines_from n more) (omega arith)
lines_of_both number (item ∷ items) more =
    let e : number + 1 + length items ≡ number + length (item ∷ items) = omega arith in
    ap (λ (l : List ℕ). line_of number item ++ l) (lines_of_both (number + 1) items more ∙ ap (λ n. lines_from (number + 1) items ++ lines_from n more) e)
    ∙ sym (append_assoc (line_of number item) (lines_from (number + 1) items) (lines_from (number + length (item ∷ items)) more))

pub lines_more : (items : List Item) (i : ℕ) (item : Item) → i < length items → lines_from 0 (take (i + 1) items) ≡ lines_from 0 (take i items) ++ line_of i (get_or items i item)
lines_more items i item within =
    let here : length (take i items) ≡ i = length-take-le i items (omega arith) in
    ap (lines_from 0) (take_more items i item within)
    ∙ lines_of_both 0 (take i items) (get_or items i item ∷ [])
    ∙ ap (λ n. lines_from 0 (take i items) ++ lines_from (0 + n) (get_or items i item ∷ [])) here
    ∙ ap (λ n. lines_from 0 (take i items) ++ lines_from n (get_or items i item ∷ [])) (let e : 0 + i ≡ i = omega arith in e)
    ∙ ap (λ (l : List ℕ). lines_from 0 (take i items) ++ l) (append-nil (line_of i (get_or items i item)))
