-- Worked rows of scripts and of the text of a journal.
use Rattle.std.proofs.Common.{◌≡◌, ℕ, zero, suc, ◌<◌, List, [], ◌∷◌, Some, None, refl, arith, inl}
use Rattle.std.specs.Prelude.{codes, map, All, replicate, ◌^◌}
use Rattle.std.specs.Fmt.{digits}
use Rattle.core_state.specs.declared.answer.Kind.TheVariants as kind
use Rattle.core_state.specs.declared.answer.Answer.TheVariants as answer
use Rattle.core_state.specs.declared.item.Item.{Item}
use Rattle.core_state.specs.declared.item.Item.TheVariants.{Group, Call}
use Rattle.client_script.specs.declared.call.Fill.TheVariants.{Nothing, Pattern, Hex}
use Rattle.client_script.specs.Lines.{Line, Clients, CallLine, split_lines, fill_bytes, pattern_byte, IsLineText}
use Rattle.client_script.specs.Lines.{IsNumberText}
use Rattle.client_script.proofs.Numbers.{digits_tested}
use Rattle.client_script.specs.Script.{calls_in, handed_by}
use Rattle.client_script.specs.Faults.{IsFaultFor}
use Rattle.client_script.specs.declared.line_fault.LineFault.TheVariants.{NoClients}
use Rattle.client_script.specs.Texts.{journal_text}

-- `a put 1 3 5` stores these bytes.
pattern_of_three : fill_bytes (Pattern 3 5) ≡ 0x05 ∷ 0x0c ∷ 0x13 ∷ []
pattern_of_three = refl

byte_256 : pattern_byte 5 256 ≡ 0x06
byte_256 = refl

-- a first run: its script, and its journal as text
first_script : List ℕ
first_script = codes "clients 1\na puthex 7 616263\na get 7\na sum 7\na sync\n"

first_lines : List Line
first_lines = Clients 1 ∷ CallLine 0 kind.Put (Some 7) (Hex (0x61 ∷ 0x62 ∷ 0x63 ∷ [])) ∷ CallLine 0 kind.Get (Some 7) Nothing
    ∷ CallLine 0 kind.Sum (Some 7) Nothing ∷ CallLine 0 kind.Sync None Nothing ∷ []

first_texts : split_lines first_script ≡
    codes "clients 1" ∷ codes "a puthex 7 616263" ∷ codes "a get 7" ∷ codes "a sum 7" ∷ codes "a sync" ∷ []
unfolding first_script
first_texts = refl

-- The last newline may be missing, and an empty line counts.
no_last_newline : split_lines (codes "clients 1\n\na sync") ≡ codes "clients 1" ∷ [] ∷ codes "a sync" ∷ []
no_last_newline = refl

-- Three bytes are bytes.
three_bytes : All (λ byte. byte < 256) (0x61 ∷ 0x62 ∷ 0x63 ∷ [])
three_bytes zero d in_list = omega arith
three_bytes (suc zero) d in_list = omega arith
three_bytes (suc (suc zero)) d in_list = omega arith
three_bytes (suc (suc (suc k))) d in_list = absurd (omega (arith, in_list))

line_of_put : IsLineText (codes "a puthex 7 616263") (CallLine 0 kind.Put (Some 7) (Hex (0x61 ∷ 0x62 ∷ 0x63 ∷ [])))
unfolding digits
line_of_put = record { served = tt; some = omega arith; spelled = refl; id_fits = omega arith; fill_fits = (omega arith, omega arith, three_bytes) }

line_of_pattern : IsLineText (codes "h put 18446744073709551615 65536 0") (CallLine 7 kind.Put (Some 18446744073709551615) (Pattern 65536 0))
unfolding digits
line_of_pattern = record { served = tt; some = omega arith; spelled = refl; id_fits = omega arith; fill_fits = (omega arith, omega arith, omega arith) }

-- A length of 0 is none that a line may have.
no_empty_put : IsLineText (codes "a put 1 0 5") (CallLine 0 kind.Put (Some 1) (Pattern 0 5)) → ⊥
no_empty_put line = omega (arith, line.fill_fits)

-- A number of clients may have any size, and no leading zero.
twelve : IsNumberText (codes "12") 12
twelve = record { digits = (omega arith, digits_tested (codes "12") refl); first = λ e. absurd (omega (arith, e)); value = refl }

-- a one and 64 zeros, more digits than `decimal` writes
large_text : List ℕ
large_text = 49 ∷ replicate 64 48

large : IsNumberText large_text (10 ^ 64)
unfolding large_text
large = record { digits = (omega arith, digits_tested large_text refl); first = λ e. absurd (omega (arith, e)); value = refl }

no_leading_zero : (count : ℕ) → IsNumberText (codes "01") count → ⊥
no_leading_zero count is = let one : 2 ≡ 1 = is.first refl in omega (arith, one)

first_digest : List ℕ
first_digest = 0xba ∷ 0x78 ∷ 0x16 ∷ 0xbf ∷ 0x8f ∷ 0x01 ∷ 0xcf ∷ 0xea ∷ 0x41 ∷ 0x41 ∷ 0x40 ∷ 0xde ∷ 0x5d ∷ 0xae ∷ 0x22 ∷ 0x23
    ∷ 0xb0 ∷ 0x03 ∷ 0x61 ∷ 0xa3 ∷ 0x96 ∷ 0x17 ∷ 0x7a ∷ 0x9c ∷ 0xb4 ∷ 0x10 ∷ 0xff ∷ 0x61 ∷ 0xf2 ∷ 0x00 ∷ 0x15 ∷ 0xad ∷ []

first_journal : List Item
first_journal =
    Group (record { group = 3; after = 0; from = 3; to = 3 })
    ∷ Call (record { caller = 0; call = 1; kind = kind.Put; id = Some 7; at = None; answer = answer.Stored })
    ∷ Call (record { caller = 0; call = 2; kind = kind.Get; id = Some 7; at = Some 2; answer = answer.Read (0x61 ∷ 0x62 ∷ 0x63 ∷ []) })
    ∷ Call (record { caller = 0; call = 3; kind = kind.Sum; id = Some 7; at = Some 3; answer = answer.Digest 3 first_digest })
    ∷ Group (record { group = 4; after = 4; from = 3; to = 3 })
    ∷ Call (record { caller = 0; call = 4; kind = kind.Sync; id = None; at = None; answer = answer.Synced 4 }) ∷ []

text_of_first_journal : journal_text first_journal ≡ codes "0 group 3 after 0\n1 a.1 put 7 ok\n2 a.2 get 7 at 2 bytes 616263\n3 a.3 sum 7 at 3 length 3 sha ba7816bf8f01cfea414140de5dae2223b00361a396177a9cb410ff61f20015ad\n4 group 4 after 4\n5 a.4 sync group 4\n"
unfolding first_journal first_digest digits
text_of_first_journal = refl

-- After a third failure a put is answered so.
text_of_failures : journal_text (Call (record { caller = 0; call = 6; kind = kind.Put; id = Some 3; at = None; answer = answer.TooManyFailed 13 }) ∷ [])
    ≡ codes "0 a.6 put 3 too many failed 0 2 3\n"
unfolding digits
text_of_failures = refl

text_of_absent : journal_text (Call (record { caller = 0; call = 1; kind = kind.Get; id = Some 5; at = Some 1; answer = answer.Absent }) ∷ [])
    ≡ codes "0 a.1 get 5 at 1 absent\n"
unfolding digits
text_of_absent = refl

text_of_scrub : journal_text (Call (record { caller = 9; call = 1; kind = kind.Scrub; id = None; at = None; answer = answer.Scrubbed 1 1 [] }) ∷ [])
    ≡ codes "0 z.1 scrub blocks 1 repaired 1 damaged none\n"
unfolding digits
text_of_scrub = refl

-- An empty script is refused at line 1.
empty_script : IsFaultFor [] 1 NoClients
empty_script = (inl (record { few = omega arith; lines = []; are = record { each = tt; right = tt }; none = refl }, refl), refl)

-- the calls of the first script, with the numbers of their lines
calls_of_first : map (λ placed. placed.call.line) (calls_in 1 first_lines) ≡ 2 ∷ 3 ∷ 4 ∷ 5 ∷ []
unfolding first_lines
calls_of_first = refl

handed_by_first : handed_by (record { clients = 1; calls = calls_in 1 first_lines; order = [] }) 0 1 ≡ 0x61 ∷ 0x62 ∷ 0x63 ∷ []
unfolding first_lines
handed_by_first = refl
