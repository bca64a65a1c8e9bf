-- The replies to feeds, byte for byte.
use Rattle.std.specs.Prelude.{ℕ, List, [], ◌∷◌, codes, map}
use Rattle.serde_json.specs.Data.{Data, array, object, string, member, no_members}
use Rattle.serde_json.specs.View.{items_of}
use Rattle.serde_json.specs.Written.{compact_text}
use Rattle.apron_rules.specs.declared.parts.AirportParts.{AirportParts}
use Rattle.desk_words.specs.FaultObjects.{refused_data}
use Rattle.apron_rules.specs.RuleWords.{rule_word}
use Rattle.desk_words.specs.PartObjects.{part_data, stand_data, whole}
use Rattle.desk_words.specs.Texts.{json_media, text_of, version_line}
use Rattle.watch_list.specs.declared.feed_words.FeedOutcome.{FeedOutcome}
use Rattle.watch_list.specs.declared.feed_words.FeedOutcome.TheVariants.{Ahead, NoWatch, Notes}
use Rattle.watch_list.specs.declared.note.Note.{Note}

-- {"blocker":PART,"class":C,"entry":N,"minute":M,"part":PART,"rule":WORD,"stand":STAND}
abbrev pub note_data : AirportParts → Note → Data
note_data airport note =
    object (member (codes "blocker") (part_data note.blocker)
    (member (codes "class") (whole note.class)
    (member (codes "entry") (whole note.entry)
    (member (codes "minute") (whole note.minute)
    (member (codes "part") (part_data note.part)
    (member (codes "rule") (string (rule_word note.rule))
    (member (codes "stand") (stand_data airport note.stand) no_members)))))))

-- {"bumps":[NOTE, ..],"version":V}
abbrev pub notes_data : AirportParts → List Note → ℕ → Data
notes_data airport notes version =
    object (member (codes "bumps") (array (items_of (map (note_data airport) notes)))
    (member (codes "version") (whole version) no_members))

-- the body of what a feed comes to, in a reply that shows this version
abbrev pub fed_data : AirportParts → ℕ → FeedOutcome → Data
fed_data airport version Ahead = refused_data (codes "ahead") version
fed_data airport version NoWatch = refused_data (codes "watch") version
fed_data airport version (Notes notes) = notes_data airport notes version

-- the code for what a feed comes to
abbrev pub fed_code : FeedOutcome → ℕ
fed_code Ahead = 409
fed_code NoWatch = 404
fed_code (Notes notes) = 200

-- a reply's whole text
unfoldable pub fed_text : AirportParts → ℕ → FeedOutcome → List ℕ
fed_text airport version fed =
    text_of (fed_code fed) json_media (version_line version ∷ [])
    (compact_text (fed_data airport version fed))
