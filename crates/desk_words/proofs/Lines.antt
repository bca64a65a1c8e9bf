-- What comes after the first lines of a text.
use Rattle.std.proofs.Common.{◌≡◌, ◌∙◌, ◌==◌, ◌+◌, ◌/◌, ◌%◌, ℕ, Bool, true, false, nat_lt, arith, append_assoc, zero, suc, List, [], ◌∷◌, ◌++◌, codes, decimal, length, refl, ap, sym, true≢false}
use Rattle.std.specs.Prelude.{if◌then◌else◌}
use Rattle.std.specs.List.{flat_map}
use Rattle.std.specs.Fmt.{digits, digits_onto, digit_glyph}
use Rattle.http.specs.StatusCode.{status_text}
use Rattle.desk_words.specs.Texts.{after_line, json_media, text_of, with_line_end}

-- no byte of the line ends it
abbrev pub is_one_line : List ℕ → Bool
is_one_line [] = true
is_one_line (byte ∷ line) = if byte == 10 then false else is_one_line line

-- what comes after the first three lines
abbrev pub behind_three : List ℕ → List ℕ
behind_three text = after_line (after_line (after_line text))

-- the byte that is tested does not end the line
line_past : (byte : Bool) (line more : List ℕ) → (if byte then false else is_one_line line) ≡ true
    → (is_one_line line ≡ true → after_line ((line ++ codes "\r\n") ++ more) ≡ more)
    → (if byte then (line ++ codes "\r\n") ++ more else after_line ((line ++ codes "\r\n") ++ more)) ≡ more
line_past true line more one rest = absurd (true≢false (sym one))
line_past false line more one rest = rest one

-- what comes after a line is the rest
after_line-ended : (line more : List ℕ) → is_one_line line ≡ true → after_line (with_line_end line ++ more) ≡ more
after_line-ended [] more one = refl
after_line-ended (byte ∷ line) more one = line_past (byte == 10) line more one (after_line-ended line more)

chosen : (first : Bool) (one other : List ℕ) → is_one_line one ≡ true → is_one_line other ≡ true → is_one_line (if first then one else other) ≡ true
chosen true one other h k = h
chosen false one other h k = k

glyph_chosen : (small : Bool) (digit : ℕ) → ((if small then 48 + digit else 87 + digit) == 10) ≡ false
glyph_chosen true digit = grind arith
glyph_chosen false digit = grind arith

-- a digit is no end of a line
glyph_goes_on : (digit : ℕ) (line : List ℕ) → is_one_line line ≡ true → is_one_line (digit_glyph false digit ∷ line) ≡ true
glyph_goes_on digit line one = rw (glyph_chosen (nat_lt digit 10) digit) one

digits_one_line : (count n : ℕ) (line : List ℕ) → is_one_line line ≡ true → is_one_line (digits_onto count 10 false n line) ≡ true
digits_one_line zero n line one = one
digits_one_line (suc count) n line one =
    let longer = glyph_goes_on (n % 10) line one in
    chosen (n / 10 == 0) (digit_glyph false (n % 10) ∷ line) (digits_onto count 10 false (n / 10) (digit_glyph false (n % 10) ∷ line)) longer
    (digits_one_line count (n / 10) (digit_glyph false (n % 10) ∷ line) longer)

decimal_one_line : (n : ℕ) → is_one_line (decimal n) ≡ true
unfolding digits
decimal_one_line n = digits_one_line 64 n [] refl

-- what comes after three lines is the rest
after_three : (a b c more : List ℕ) → is_one_line a ≡ true → is_one_line b ≡ true → is_one_line c ≡ true
    → behind_three (with_line_end a ++ (with_line_end b ++ (with_line_end c ++ more))) ≡ more
after_three a b c more one two three =
    rw (after_line-ended a (with_line_end b ++ (with_line_end c ++ more)) one, after_line-ended b (with_line_end c ++ more) two, after_line-ended c more three) refl

grouped : (a b c d e f : List ℕ) → ((a ++ (b ++ (c ++ d))) ++ e) ++ f ≡ a ++ (b ++ (c ++ (d ++ (e ++ f))))
grouped a b c d e f = simp append_assoc

-- after the three lines of each reply come the extra lines, the empty one and the body
pub behind_lines_of : (code : ℕ) (media : List ℕ) (extra : List (List ℕ)) (body : List ℕ) → is_one_line (codes "HTTP/1.1 " ++ status_text code) ≡ true
    → is_one_line (codes "Content-Type: " ++ media) ≡ true
    → behind_three (text_of code media extra body) ≡ flat_map with_line_end extra ++ (codes "\r\n" ++ body)
behind_lines_of code media extra body one two =
    let first = codes "HTTP/1.1 " ++ status_text code in
    let second = codes "Content-Type: " ++ media in
    let third = codes "Content-Length: " ++ decimal (length body) in
    ap behind_three (grouped (with_line_end first) (with_line_end second) (with_line_end third) (flat_map with_line_end extra) (codes "\r\n") body)
    ∙ after_three first second third (flat_map with_line_end extra ++ (codes "\r\n" ++ body)) one two (decimal_one_line (length body))

-- the same if the body is JSON
pub behind_lines : (code : ℕ) (extra : List (List ℕ)) (body : List ℕ) → is_one_line (codes "HTTP/1.1 " ++ status_text code) ≡ true
    → behind_three (text_of code json_media extra body) ≡ flat_map with_line_end extra ++ (codes "\r\n" ++ body)
behind_lines code extra body one = behind_lines_of code json_media extra body one refl
