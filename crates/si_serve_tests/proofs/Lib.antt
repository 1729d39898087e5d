mod EmptyWord
