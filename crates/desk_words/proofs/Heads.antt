-- The head of a reply as one text.
use Rattle.std.proofs.Common.{◌≡◌, ◌∷◌, ◌++◌, ℕ, List, [], codes, decimal, append_assoc, append-nil}
use Rattle.std.specs.List.{flat_map}
use Rattle.http.specs.StatusCode.{status_text}
use Rattle.desk_words.specs.Texts.{reply_head, version_line}

-- three lines that end alike, and an empty one
three_lines : (end a x b y c z : List ℕ)
    → flat_map (λ line. line ++ end) ((a ++ x) ∷ (b ++ y) ∷ (c ++ z) ∷ []) ++ end
    ≡ a ++ (x ++ ((end ++ b) ++ (y ++ ((end ++ c) ++ (z ++ (end ++ end))))))
three_lines end a x b y c z = simp (append_assoc, append-nil)

pub bare_head : (code : ℕ) (media : List ℕ) (length_of_body : ℕ)
    → reply_head code media [] length_of_body
    ≡ codes "HTTP/1.1 " ++ (status_text code ++ (codes "\r\nContent-Type: " ++ (media ++ (codes "\r\nContent-Length: " ++ (decimal length_of_body ++ codes "\r\n\r\n")))))
bare_head code media length_of_body =
    three_lines (codes "\r\n") (codes "HTTP/1.1 ") (status_text code) (codes "Content-Type: ") media (codes "Content-Length: ") (decimal length_of_body)

-- four lines that end alike, and an empty one
four_lines : (end a x b y c z d w : List ℕ)
    → flat_map (λ line. line ++ end) ((a ++ x) ∷ (b ++ y) ∷ (c ++ z) ∷ (d ++ w) ∷ []) ++ end
    ≡ a ++ (x ++ ((end ++ b) ++ (y ++ ((end ++ c) ++ (z ++ ((end ++ d) ++ (w ++ (end ++ end))))))))
four_lines end a x b y c z d w = simp (append_assoc, append-nil)

pub versioned_head : (code : ℕ) (media : List ℕ) (length_of_body version : ℕ)
    → reply_head code media (version_line version ∷ []) length_of_body
    ≡ codes "HTTP/1.1 " ++ (status_text code ++ (codes "\r\nContent-Type: " ++ (media ++ (codes "\r\nContent-Length: " ++ (decimal length_of_body
    ++ (codes "\r\nX-Version: " ++ (decimal version ++ codes "\r\n\r\n")))))))
versioned_head code media length_of_body version =
    four_lines (codes "\r\n") (codes "HTTP/1.1 ") (status_text code) (codes "Content-Type: ") media (codes "Content-Length: ")
    (decimal length_of_body) (codes "X-Version: ") (decimal version)
