use Rattle.site_book.proofs.rounds.announce.Given as goal

abbrev pub ghosts-open_post : goal.ghosts-open_post
ghosts-open_post a = record { post = a.post.now }
