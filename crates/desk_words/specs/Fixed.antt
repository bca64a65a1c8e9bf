-- The replies whose text is a constant, and those with a word as the error.
use Rattle.std.specs.Prelude.{ℕ, List, [], ◌∷◌, codes}
use Rattle.serde_json.specs.Data.{Data, string, object, member, no_members}
use Rattle.serde_json.specs.Written.{compact_text}
use Rattle.desk_words.specs.Texts.{json_media, text_of}

-- {"error":WORD}
abbrev pub error_data : List ℕ → Data
error_data error = object (member (codes "error") (string error) no_members)

-- a code with this body, and no extra line
abbrev pub plain_text : ℕ → Data → List ℕ
plain_text code body = text_of code json_media [] (compact_text body)

-- there is no memory
unfoldable pub no_memory_text : List ℕ
no_memory_text = plain_text 507 (error_data (codes "memory"))

-- a command could have been accepted, but could not be kept
unfoldable pub keeper_fault_text : List ℕ
keeper_fault_text = plain_text 503 (error_data (codes "keeper"))

-- a code with this error, after which the connection ends
abbrev pub closing_text : ℕ → List ℕ → List ℕ
closing_text code error =
    text_of code json_media (codes "Connection: close" ∷ []) (compact_text (error_data error))

-- the head is malformed, exceeds its limits, or doesn't give a length as it has to
unfoldable pub bad_head_text : List ℕ
bad_head_text = closing_text 400 (codes "head")

-- the body would come in another way than as bytes of a stated length
unfoldable pub bad_encoding_text : List ℕ
bad_encoding_text = closing_text 501 (codes "encoding")

-- the body would be longer than a body may be
unfoldable pub large_body_text : List ℕ
large_body_text = closing_text 413 (codes "large")

-- the length of the body isn't stated
unfoldable pub no_length_text : List ℕ
no_length_text = closing_text 411 (codes "length")

-- all of them
abbrev pub fixed_texts : List (List ℕ)
fixed_texts =
    no_memory_text ∷ keeper_fault_text ∷ bad_head_text ∷ bad_encoding_text ∷ large_body_text
    ∷ no_length_text ∷ []
