-- What is wrong with a line that breaks the grammar.
use Rattle.std.specs.Prelude.{◌≡◌, ◌≢◌, ◌⊎◌, ℕ, zero, suc, ◌+◌, ◌*◌, ◌<◌, List, [], ◌∷◌, ◌++◌, length, All, Option}
use Rattle.std.specs.Prelude.{Some, None, option_map, codes, slice_index_or, ◌==◌, if◌then◌else◌}
use Rattle.std.proofs.Common.{inl, inr}
use Rattle.std.specs.List.{AllZip}
use Rattle.client_script.specs.declared.call_fault.CallFault.{CallFault}
use Rattle.client_script.specs.declared.call_fault.CallFault.TheVariants.{UnknownCall, Number, PutWords, NoBytes}
use Rattle.client_script.specs.declared.call_fault.CallFault.TheVariants.{TooManyBytes, HexDigits, IdAlone, WordAlone}
use Rattle.client_script.specs.declared.line_fault.LineFault.{LineFault}
use Rattle.client_script.specs.declared.line_fault.LineFault.TheVariants.{CarriageReturn, StraySpace, NoClients}
use Rattle.client_script.specs.declared.line_fault.LineFault.TheVariants.{ClientsAgain, ClientCount, Turns, NoCall}
use Rattle.client_script.specs.declared.line_fault.LineFault.TheVariants.{NoSuchClient, InCall}
use Rattle.client_script.specs.Lines.{Order, IsLineText, IsNumberText, with_byte, client_letter}
use Rattle.client_script.specs.Words.{IsNumber, IsHex}
use Rattle.client_script.specs.Script.{Script, IsFaultAt, clients_in}

-- what stands between the spaces of a text
abbrev pub split_words : List ℕ → List (List ℕ)
split_words [] = [] ∷ []
split_words (byte ∷ bytes) =
    if byte == 32 then [] ∷ split_words bytes else with_byte byte (split_words bytes)

-- Words are numbers of 64 bits.
abbrev pub AreNumbers : List (List ℕ) → Type 0
AreNumbers words = (numbers : List ℕ) × AllZip IsNumber words numbers

-- The name of a call that has an id alone.
abbrev pub IsIdName : List ℕ → Type 0
IsIdName word = (word ≡ codes "get") ⊎ ((word ≡ codes "sum") ⊎ (word ≡ codes "free"))

-- The name of a call that writes a block.
abbrev pub IsPutName : List ℕ → Type 0
IsPutName word = (word ≡ codes "put") ⊎ (word ≡ codes "puthex")

-- The name of a call that has nothing else.
abbrev pub IsBareName : List ℕ → Type 0
IsBareName word = (word ≡ codes "sync") ⊎ ((word ≡ codes "attach") ⊎ (word ≡ codes "copy"))

-- The name of a call.
abbrev pub IsCallName : List ℕ → Type 0
IsCallName word = IsPutName word ⊎ (IsIdName word ⊎ IsBareName word)

-- What is wrong with the words of a call after its letter.
abbrev pub IsCallFault : List ℕ → CallFault → Type 0
IsCallFault words UnknownCall = (name : List ℕ) × (rest : List (List ℕ))
    × (split_words words ≡ name ∷ rest) × (IsCallName name → ⊥)
IsCallFault words Number =
    ((id : List ℕ) × (len : List ℕ) × (seed : List ℕ)
    × (split_words words ≡ codes "put" ∷ id ∷ len ∷ seed ∷ [])
    × (AreNumbers (id ∷ len ∷ seed ∷ []) → ⊥))
    ⊎ (((id : List ℕ) × (rest : List (List ℕ))
    × (split_words words ≡ codes "puthex" ∷ id ∷ rest) × (AreNumbers (id ∷ []) → ⊥))
    ⊎ ((name : List ℕ) × (id : List ℕ) × IsIdName name
    × (split_words words ≡ name ∷ id ∷ []) × (AreNumbers (id ∷ []) → ⊥)))
IsCallFault words PutWords =
    ((rest : List (List ℕ)) × (split_words words ≡ codes "put" ∷ rest) × (length rest ≢ 3))
    ⊎ ((rest : List (List ℕ)) × (split_words words ≡ codes "puthex" ∷ rest) × (length rest < 2))
IsCallFault words NoBytes = (id : List ℕ) × (len : List ℕ) × (seed : List ℕ)
    × (split_words words ≡ codes "put" ∷ id ∷ len ∷ seed ∷ []) × IsNumber len 0
IsCallFault words TooManyBytes =
    ((id : List ℕ) × (len : List ℕ) × (seed : List ℕ) × (count : ℕ)
    × (split_words words ≡ codes "put" ∷ id ∷ len ∷ seed ∷ []) × IsNumber len count
    × (65536 < count))
    ⊎ ((id : List ℕ) × (digits : List ℕ) × (words ≡ codes "puthex " ++ id ++ 32 ∷ digits)
    × (2 * 65536 < length digits))
IsCallFault words HexDigits = (id : List ℕ) × (digits : List ℕ)
    × (words ≡ codes "puthex " ++ id ++ 32 ∷ digits)
    × ((bytes : List ℕ) → IsHex digits bytes → ⊥)
IsCallFault words IdAlone = (name : List ℕ) × (rest : List (List ℕ)) × IsIdName name
    × (split_words words ≡ name ∷ rest) × (length rest ≢ 1)
IsCallFault words WordAlone = (name : List ℕ) × (rest : List (List ℕ)) × IsBareName name
    × (split_words words ≡ name ∷ rest) × (0 < length rest)

-- A space stands at an end of a text, or beside another.
abbrev pub HasStraySpace : List ℕ → Type 0
HasStraySpace text = (place : ℕ) × (slice_index_or text place 0 ≡ 32)
    × ((place ≡ 0) ⊎ ((place + 1 ≡ length text) ⊎ (slice_index_or text (place + 1) 0 ≡ 32)))

-- the clients that a script has so far, None where no line has said it
abbrev pub named_by : Option Script → Option ℕ
named_by script = option_map (λ (before : Script). before.clients) script

-- the same of their number, which is 0 where no line says it
abbrev pub named : ℕ → Option ℕ
named zero = None
named (suc more) = Some (suc more)

-- What is wrong with a line, where the lines above have named so many clients.
abbrev pub IsFaultOf : Option ℕ → List ℕ → LineFault → Type 0
IsFaultOf clients text CarriageReturn = (front : List ℕ) × (text ≡ front ++ 13 ∷ [])
IsFaultOf clients text StraySpace = HasStraySpace text
IsFaultOf clients text NoClients =
    (clients ≡ None) × ((word : List ℕ) → text ≢ codes "clients " ++ word)
IsFaultOf clients text ClientsAgain =
    (clients ≢ None) × (word : List ℕ) × (text ≡ codes "clients " ++ word)
IsFaultOf clients text ClientCount = (word : List ℕ) × (text ≡ codes "clients " ++ word)
    × ((count : ℕ) → IsNumberText word count → count ≡ 0)
IsFaultOf clients text Turns = (count : ℕ) × (clients ≡ Some count) × (letters : List ℕ)
    × (text ≡ codes "order " ++ letters)
    × ((actors : List ℕ) → IsLineText text (Order actors) → All (λ actor. actor < count) actors → ⊥)
IsFaultOf clients text NoCall =
    ((word : List ℕ) → text ≢ codes "clients " ++ word)
    × ((letters : List ℕ) → text ≢ codes "order " ++ letters)
    × ((letter : ℕ) (words : List ℕ) → text ≢ letter ∷ 32 ∷ words)
IsFaultOf clients text (NoSuchClient count) = (clients ≡ Some count) × (letter : ℕ)
    × (words : List ℕ) × (text ≡ letter ∷ 32 ∷ words)
    × ((actor : ℕ) → actor < count → letter ≢ client_letter actor)
IsFaultOf clients text (InCall why) = (letter : ℕ) × (words : List ℕ)
    × (text ≡ letter ∷ 32 ∷ words) × IsCallFault words why

-- What is wrong with the first line that breaks the grammar, or that no line names clients.
abbrev pub IsReasonOf : (bytes : List ℕ) → (number : ℕ) → IsFaultAt bytes number → LineFault → Type 0
IsReasonOf bytes number (inl lacks) why = why ≡ NoClients
IsReasonOf bytes number (inr (above, lines, text, there, breaks, no_limit)) why =
    IsFaultOf (named (clients_in lines)) text why

-- Bytes were refused at this line for this.
abbrev pub IsFaultFor : List ℕ → ℕ → LineFault → Type 0
IsFaultFor bytes number why =
    (fault : IsFaultAt bytes number) × IsReasonOf bytes number fault why
