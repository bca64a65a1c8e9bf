-- The replies whose body has a number.
use Rattle.std.proofs.Common.{◌≡◌, ◌∙◌, ◌+◌, ◌-◌, ◌<◌, ◌^◌, ℕ, true, List, [], ◌++◌, codes, decimal, length, take, append_assoc, refl, sym, ap, arith}
use Rattle.std.specs.Fmt.{digits}
use Rattle.std.specs.Prelude.{slice_index}
use Rattle.std.specs.Str.Parse.{digits_value}
use Rattle.std.proofs.Math.Seq.{take-append_seam}
use Rattle.std.proofs.lemmas.Fmt.{decimal_is_IsNumeral}
use Rattle.std.proofs.lemmas.List.{get_or-append-add, length-append}
use Rattle.http.specs.StatusCode.{status_text}
use Rattle.serde_json.proofs.OnLiterals.{serde_json_on_literals}
use Rattle.serde_json.specs.Written.{compact_text}
use Rattle.mvt_grammar.specs.declared.message.MvtFault.TheVariants.{BadElement, Twice}
use Rattle.desk_words.specs.declared.early.EarlyReply.TheVariants.{BadStand, NotMvt}
use Rattle.desk_words.specs.Early.{early_text, mvt_fault_data, stand_error_data}
use Rattle.desk_words.specs.Texts.{json_media, text_of}
use Rattle.desk_words.proofs.Heads.{bare_head}
use Rattle.desk_words.proofs.Lines.{behind_lines, behind_three, is_one_line}

-- a body that names an edit, after the digits
abbrev pub stand_end : List ℕ
stand_end = codes ",\"error\":\"stand\"}"

-- a body that names an edit
abbrev pub stand_body : ℕ → List ℕ
stand_body edit = codes "{\"edit\":" ++ (decimal edit ++ stand_end)

-- a body with the place of an element of another form, after the digits
abbrev pub element_end : List ℕ
element_end = codes ",\"error\":\"mvt\",\"fault\":\"element\"}"

-- a body with the place of an element that was read before, after the digits
abbrev pub twice_end : List ℕ
twice_end = codes ",\"error\":\"mvt\",\"fault\":\"twice\"}"

-- a body with a place
abbrev pub place_body : ℕ → List ℕ → List ℕ
place_body place end = codes "{\"at\":" ++ (decimal place ++ end)

pub stand_body_is : (edit : ℕ) → compact_text (stand_error_data edit) ≡ stand_body edit
unfolding serde_json_on_literals
stand_body_is edit = refl

pub element_body_is : (place : ℕ) → compact_text (mvt_fault_data (BadElement place)) ≡ place_body place element_end
unfolding serde_json_on_literals
element_body_is place = refl

pub twice_body_is : (place : ℕ) → compact_text (mvt_fault_data (Twice place)) ≡ place_body place twice_end
unfolding serde_json_on_literals
twice_body_is place = refl

pub unprocessable : status_text 422 ≡ codes "422 Unprocessable Entity"
unfolding digits
unprocessable = refl

pub bad_request : status_text 400 ≡ codes "400 Bad Request"
unfolding digits
bad_request = refl

-- the texts of the three replies, by the texts of their bodies
pub stand_text : (edit : ℕ) → text_of 422 json_media [] (stand_body edit) ≡ early_text (BadStand edit)
unfolding early_text
stand_text edit = ap (λ (body : List ℕ). text_of 422 json_media [] body) (sym (stand_body_is edit))

pub element_text : (place : ℕ) → text_of 400 json_media [] (place_body place element_end) ≡ early_text (NotMvt (BadElement place))
unfolding early_text
element_text place = ap (λ (body : List ℕ). text_of 400 json_media [] body) (sym (element_body_is place))

pub twice_text : (place : ℕ) → text_of 400 json_media [] (place_body place twice_end) ≡ early_text (NotMvt (Twice place))
unfolding early_text
twice_text place = ap (λ (body : List ℕ). text_of 400 json_media [] body) (sym (twice_body_is place))

grouped : (a s t m u d e x n z : List ℕ)
    → ((((((a ++ s) ++ (t ++ (m ++ u))) ++ d) ++ e) ++ x) ++ n) ++ z ≡ (a ++ (s ++ (t ++ (m ++ (u ++ (d ++ e)))))) ++ (x ++ (n ++ z))
grouped a s t m u d e x n z = simp append_assoc

-- the pieces, one after the other, are the whole text
pub pieces_are_text : (code : ℕ) (status start number end bytes one two three four five six seven eight : List ℕ) → status_text code ≡ status
    → bytes ≡ decimal (length start + length number + length end) → one ≡ codes "HTTP/1.1 " → two ≡ one ++ status
    → three ≡ two ++ codes "\r\nContent-Type: application/json\r\nContent-Length: " → four ≡ three ++ bytes → five ≡ four ++ codes "\r\n\r\n"
    → six ≡ five ++ start → seven ≡ six ++ number → eight ≡ seven ++ end → eight ≡ text_of code json_media [] (start ++ (number ++ end))
pieces_are_text code status start number end bytes one two three four five six seven eight s b h1 h2 h3 h4 h5 h6 h7 h8 =
    let body = start ++ (number ++ end) in
    let long : length start + length number + length end ≡ length body = omega (arith, length-append start (number ++ end), length-append number end) in
    rw (h8, h7, h6, h5, h4, h3, h2, h1, b, long, ← s)
    (grouped (codes "HTTP/1.1 ") (status_text code) (codes "\r\nContent-Type: ") json_media (codes "\r\nContent-Length: ") (decimal (length body))
    (codes "\r\n\r\n") start number end
    ∙ ap (λ (head : List ℕ). head ++ body) (sym (bare_head code json_media (length body))))

unprocessable_one_line : is_one_line (codes "HTTP/1.1 " ++ status_text 422) ≡ true
unfolding digits
unprocessable_one_line = refl

bad_request_one_line : is_one_line (codes "HTTP/1.1 " ++ status_text 400) ≡ true
unfolding digits
bad_request_one_line = refl

-- after their three lines come the empty one and the body
pub stand_behind : (edit : ℕ) → behind_three (early_text (BadStand edit)) ≡ codes "\r\n" ++ stand_body edit
stand_behind edit = ap behind_three (sym (stand_text edit)) ∙ behind_lines 422 [] (stand_body edit) unprocessable_one_line

pub element_behind : (place : ℕ) → behind_three (early_text (NotMvt (BadElement place))) ≡ codes "\r\n" ++ place_body place element_end
element_behind place = ap behind_three (sym (element_text place)) ∙ behind_lines 400 [] (place_body place element_end) bad_request_one_line

pub twice_behind : (place : ℕ) → behind_three (early_text (NotMvt (Twice place))) ≡ codes "\r\n" ++ place_body place twice_end
twice_behind place = ap behind_three (sym (twice_text place)) ∙ behind_lines 400 [] (place_body place twice_end) bad_request_one_line

-- the number that is written before the last bytes of a text, this many of them
abbrev pub number_in : ℕ → List ℕ → ℕ
number_in last text = digits_value 10 (take (length text - last) text)

pub number_in-text : (number : ℕ) (end : List ℕ) → number < 2 ^ 32 → number_in (length end) (decimal number ++ end) ≡ number
number_in-text number end small =
    let cut : length (decimal number ++ end) - length end ≡ length (decimal number) = omega (arith, length-append (decimal number) end) in
    ap (λ (n : ℕ). digits_value 10 (take n (decimal number ++ end))) cut
    ∙ ap (digits_value 10) (take-append_seam (decimal number) end)
    ∙ (decimal_is_IsNumeral number (omega arith)).1

-- a byte counted from the end of a text is one of its end
pub byte_of_end : (text end : List ℕ) (i last : ℕ) → i + last ≡ length end → slice_index (text ++ end) (length (text ++ end) - last) ≡ slice_index end i
byte_of_end text end i last fits =
    let place : length (text ++ end) - last ≡ length text + i = omega (arith, length-append text end) in
    ap (slice_index (text ++ end)) place ∙ get_or-append-add text end i 0
