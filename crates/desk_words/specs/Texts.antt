-- The whole text of a reply.
use Rattle.std.specs.Prelude.{◌==◌, ℕ, Bool, nat_eq, List, [], ◌∷◌, ◌++◌, length, codes, decimal, if◌then◌else◌}
use Rattle.std.specs.List.{flat_map, starts_with}
use Rattle.http.specs.StatusCode.{status_text}

-- the media type of a body that is JSON
abbrev pub json_media : List ℕ
json_media = codes "application/json"

-- the media type of a wall chart
abbrev pub plain_media : List ℕ
plain_media = codes "text/plain"

-- a line and its end
abbrev pub with_line_end : List ℕ → List ℕ
with_line_end line = line ++ codes "\r\n"

-- the lines before the empty one: the code with its phrase, the media type and length of the body,
-- and the extra lines
abbrev pub head_lines : ℕ → List ℕ → List (List ℕ) → ℕ → List (List ℕ)
head_lines code media extra length_of_body =
    (codes "HTTP/1.1 " ++ status_text code) ∷ (codes "Content-Type: " ++ media)
    ∷ (codes "Content-Length: " ++ decimal length_of_body) ∷ extra

-- the lines and the empty one
abbrev pub reply_head : ℕ → List ℕ → List (List ℕ) → ℕ → List ℕ
reply_head code media extra length_of_body =
    flat_map with_line_end (head_lines code media extra length_of_body) ++ codes "\r\n"

-- the text of a reply of this code, with a body of this media type and these extra lines
abbrev pub text_of : ℕ → List ℕ → List (List ℕ) → List ℕ → List ℕ
text_of code media extra body = reply_head code media extra (length body) ++ body

-- the line with a version
abbrev pub version_line : ℕ → List ℕ
version_line version = codes "X-Version: " ++ decimal version

-- what comes after the first line of a text
abbrev pub after_line : List ℕ → List ℕ
after_line [] = []
after_line (byte ∷ text) = if byte == 10 then text else after_line text

-- whether the first of the extra lines of a text gives a version
abbrev pub shows_version : List ℕ → Bool
shows_version text =
    starts_with nat_eq (after_line (after_line (after_line text))) (codes "X-Version: ")
