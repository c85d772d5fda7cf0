-- The names of fields.
use Rattle.std.specs.Prelude.{ℕ, List, codes}
use Rattle.koth_news.specs.declared.key.Key.{Key}

unfoldable pub key_text : Key → List ℕ
key_text Key.Author = codes "author"
key_text Key.Bytes = codes "bytes"
key_text Key.Entry = codes "entry"
key_text Key.Kind = codes "kind"
key_text Key.Line = codes "line"
key_text Key.Lines = codes "lines"
key_text Key.Name = codes "name"
key_text Key.Peer = codes "peer"
key_text Key.Points = codes "points"
key_text Key.Pushed = codes "pushed"
key_text Key.PushedAuthor = codes "pushed_author"
key_text Key.PushedName = codes "pushed_name"
key_text Key.Rank = codes "rank"
key_text Key.Request = codes "request"
key_text Key.Status = codes "status"
key_text Key.Text = codes "text"
key_text Key.Time = codes "time"
key_text Key.Type = codes "type"
key_text Key.Whole = codes "whole"
